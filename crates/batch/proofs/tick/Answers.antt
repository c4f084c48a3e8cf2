use mathlib.Core.Path.{sym}
use native.Mathlib.Omega.{arith}
use lib.Seq.{length-take-le}
use Rattle.store.proofs.ConnLaws.{lined-sound}
use Rattle.market_tick.specs.Turns.{lent_all}
use Rattle.batch.proofs.CallLaws.{ticks}
use Rattle.batch.proofs.tick.Goals as goal

pub digits-views-requires : goal.digits-views-requires
digits-views-requires c =
    let s = c.requires.0 in
    omega (arith, c.count-lines.ensures, (lined-sound _ s).count, s.sized.lines)

pub slice_bounds-views-end : goal.slice_bounds-views-end
slice_bounds-views-end c =
    let s = c.requires.0 in
    omega (arith, c.count-lines.ensures, (lined-sound _ s).count, s.sized.lines)

pub slice_bounds-tick-end : goal.slice_bounds-tick-end
slice_bounds-tick-end c =
    let d = c.digits-views in
    let s = c.requires.0 in
    sym (length-take-le _ d.result (omega (arith, d.ensures.0, c.count-lines.ensures, (lined-sound _ s).count, s.sized.lines)))

pub returns : goal.returns
returns c =
    ticks c.args.w.now (lent_all c.args.s.now c.args.out.now c.args.reports.now)
    _ _ _ _ c.count-lines.ensures c.requires.1.1 c.digits-views.ensures.1 c.tick.ensures
