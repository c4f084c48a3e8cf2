use native.Mathlib.Omega.{arith}
use Rattle.moves.proofs.LiningLaws.{round-start, round-on, round-done}
use Rattle.moves.proofs.lining_up.round.Goals as goal

pub loop-i-init : goal.loop-i-init
loop-i-init c = round-start c.args.t c.requires

pub loop-i-preserved : goal.loop-i-preserved
loop-i-preserved c =
    let t = c.try_align-m in
    round-on c.args.t c.requires c.loop-i.invariant (omega (arith, c.count-i-end.ensures)) t.auto.s t.auto.out t.ensures

pub returns : goal.returns
returns c =
    round-done c.args.t c.requires c.loop-i.invariant (omega (arith, c.count-i-end.ensures))
