use mathlib.Core.Path.{ap, ◌∙◌}
use mathlib.Core.Bool.{false}
use Rattle.std.proofs.lemmas.Result.{err_from_is_err_and}
use Rattle.rules.specs.Answers.{value}
use Rattle.depth.specs.Value.{book_of}
use Rattle.depth.proofs.Readings.{first-best, best-first, best_refused}
use Rattle.depth.proofs.Depth.best_ask.Goals as goal

pub returns-in_err-asks : goal.returns-in_err-asks
returns-in_err-asks c =
    let p = err_from_is_err_and c.from_residual.result c.from_residual.ensures.1 in
    rw (p.1, p.2) (best_refused (book_of c.args.self.now) _ false c.in_err-asks.ensures)

pub returns : goal.returns
returns c =
    ap value ((c.copied.ensures ∙ c.first.ensures.value) ∙ first-best _)
    ∙ best-first (book_of c.args.self.now) false c.in_ok-asks.ensures
