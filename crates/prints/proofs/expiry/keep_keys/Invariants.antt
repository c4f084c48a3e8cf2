use Rattle.prints.proofs.Staying.{KeyTurn}
use Rattle.prints.proofs.expiry.keep_keys.Given as goal

abbrev pub invariant-loop-i : goal.invariant-loop-i
invariant-loop-i l = KeyTurn l.n l.t l.initial.area l.area l.i l.j
