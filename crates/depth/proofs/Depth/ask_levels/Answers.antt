use mathlib.Core.Path.{sym, ap, ◌∙◌}
use mathlib.Core.Bool.{false}
use Rattle.rules.specs.Answers.{value}
use native.Mathlib.Omega.{arith}
use Rattle.std.proofs.lemmas.Result.{err_from_is_err_and}
use Rattle.levels.proofs.Books.{levels-unsound, levels-done}
use Rattle.depth.specs.Value.{book_of}
use Rattle.depth.proofs.Readings.{counts}
use Rattle.depth.proofs.Depth.ask_levels.Goals as goal

pub returns-in_err-tested : goal.returns-in_err-tested
returns-in_err-tested c =
    let p = err_from_is_err_and c.from_residual.result c.from_residual.ensures.1 in
    let (e, u) = c.in_err-tested.ensures.refused in
    rw (p.1, p.2, e) (sym (levels-unsound (book_of c.args.self.now) false u))

pub levels-requires : goal.levels-requires
levels-requires c = omega (arith, counts c.args.self.now c.in_ok-tested.ensures.done)

pub returns : goal.returns
returns c = ap value c.levels.ensures ∙ sym (levels-done (book_of c.args.self.now) false c.in_ok-tested.ensures.done)
