use Rattle.rows.proofs.Removing.{RunTurn}
use Rattle.rows.proofs.removal.keep_others.Given as goal

abbrev pub invariant-loop-i : goal.invariant-loop-i
invariant-loop-i l = RunTurn l.from l.n l.to l.z l.initial.t l.t l.i l.j
