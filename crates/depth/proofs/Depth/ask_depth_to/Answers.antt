use mathlib.Core.Path.{sym}
use native.Mathlib.Omega.{arith}
use Rattle.std.proofs.lemmas.Result.{err_from_is_err_and}
use Rattle.levels.proofs.Books.{sound-asks, asks_to-unsound, asks_to-done}
use Rattle.depth.specs.Value.{book_of}
use Rattle.depth.proofs.Readings.{split-side, counts}
use Rattle.depth.proofs.Depth.ask_depth_to.Goals as goal

pub returns-in_err-tested : goal.returns-in_err-tested
returns-in_err-tested c =
    let p = err_from_is_err_and c.from_residual.result c.from_residual.ensures.1 in
    let (e, u) = c.in_err-tested.ensures.refused in
    rw (p.1, p.2, e) (sym (asks_to-unsound (book_of c.args.self.now) c.args.ceiling u))

pub split-columns-requires : goal.split-columns-requires
split-columns-requires c = omega (arith, counts c.args.self.now c.in_ok-tested.ensures.done)

pub ask_depth_to-requires : goal.ask_depth_to-requires
ask_depth_to-requires c =
    let d = c.args.self.now in
    rw (split-side d.asks.levels _ _ d.asks.count c.split-columns.ensures) (sound-asks (book_of d) c.in_ok-tested.ensures.done)

pub returns : goal.returns
returns c =
    let d = c.args.self.now in
    rw (asks_to-done (book_of d) c.args.ceiling c.in_ok-tested.ensures.done, c.ask_depth_to.ensures, split-side d.asks.levels _ _ d.asks.count c.split-columns.ensures)
