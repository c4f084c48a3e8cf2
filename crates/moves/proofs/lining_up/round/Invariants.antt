use Rattle.moves.proofs.LiningLaws.{RoundTo}
use Rattle.moves.proofs.lining_up.round.Given as goal

abbrev pub invariant-loop-i : goal.invariant-loop-i
invariant-loop-i l = RoundTo l.t l.initial.s l.initial.out l.n l.s l.out l.m l.i
