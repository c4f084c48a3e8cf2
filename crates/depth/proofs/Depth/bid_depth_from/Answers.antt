use mathlib.Core.Path.{sym}
use native.Mathlib.Omega.{arith}
use Rattle.std.proofs.lemmas.Result.{err_from_is_err_and}
use Rattle.levels.proofs.Books.{sound-bids, bids_from-unsound, bids_from-done}
use Rattle.depth.specs.Value.{book_of}
use Rattle.depth.proofs.Readings.{split-side, counts}
use Rattle.depth.proofs.Depth.bid_depth_from.Goals as goal

pub returns-in_err-tested : goal.returns-in_err-tested
returns-in_err-tested c =
    let p = err_from_is_err_and c.from_residual.result c.from_residual.ensures.1 in
    let (e, u) = c.in_err-tested.ensures.refused in
    rw (p.1, p.2, e) (sym (bids_from-unsound (book_of c.args.self.now) c.args.floor u))

pub split-columns-requires : goal.split-columns-requires
split-columns-requires c = omega (arith, counts c.args.self.now c.in_ok-tested.ensures.done)

pub bid_depth_from-requires : goal.bid_depth_from-requires
bid_depth_from-requires c =
    let d = c.args.self.now in
    rw (split-side d.bids.levels _ _ d.bids.count c.split-columns.ensures) (sound-bids (book_of d) c.in_ok-tested.ensures.done)

pub returns : goal.returns
returns c =
    let d = c.args.self.now in
    rw (bids_from-done (book_of d) c.args.floor c.in_ok-tested.ensures.done, c.bid_depth_from.ensures, split-side d.bids.levels _ _ d.bids.count c.split-columns.ensures)
