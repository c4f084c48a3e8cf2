use Rattle.moves.proofs.LiningLaws.{SweepTo}
use Rattle.moves.proofs.lining_up.align_pending.Given as goal

abbrev pub invariant-loop-pending : goal.invariant-loop-pending
invariant-loop-pending l = SweepTo l.t l.initial.s l.initial.out l.n l.s l.out l.m l.pending

abbrev pub decreases-loop-pending : goal.decreases-loop-pending
decreases-loop-pending l = l.pending
