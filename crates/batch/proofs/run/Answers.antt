use Rattle.batch.proofs.RunLaws.{under_first, turn-ready, run-done, run-full, run-stopped, under_next}
use Rattle.batch.proofs.run.Goals as goal

pub loop-i-init : goal.loop-i-init
loop-i-init c = let a = c.args in under_first a.calls.now a.s.now a.out.now a.reports.now a.answers.now c.requires

pub returns-then-room-i : goal.returns-then-room-i
returns-then-room-i c = run-full c.loop-i.invariant c.loop-i-test.true c.if-room-i.true _ c.ended.ensures

pub turn-requires : goal.turn-requires
turn-requires c = turn-ready c.loop-i.invariant c.loop-i-test.true c.if-room-i.false

pub returns-in-None : goal.returns-in-None
returns-in-None c = run-stopped c.loop-i.invariant c.loop-i-test.true c.if-room-i.false _ c.in-None.ensures _ c.reason.ensures _ c.ended-in-None.ensures

pub loop-i-preserved : goal.loop-i-preserved
loop-i-preserved c = under_next c.loop-i.invariant c.loop-i-test.true _ _ c.in-Some.ensures

pub returns : goal.returns
returns c = run-done c.loop-i.invariant c.loop-i-test.false _ c.ended-2.ensures
