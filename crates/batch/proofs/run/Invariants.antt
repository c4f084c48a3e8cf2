use Rattle.batch.specs.Batch.{lists}
use Rattle.batch.proofs.RunLaws.{Under}
use Rattle.batch.proofs.run.Given as goal

abbrev pub invariant-loop-i : goal.invariant-loop-i
invariant-loop-i l = Under l.calls (lists l.initial.s l.initial.out l.initial.reports l.initial.answers) l.i l.k (lists l.s l.out l.reports l.answers)
