use Prim.Native.Nat.{◌-◌}
use Rattle.prints.proofs.Staying.{CountTurn}
use Rattle.prints.proofs.expiry.keep_counts.Given as goal

abbrev pub invariant-loop-i : goal.invariant-loop-i
invariant-loop-i l = CountTurn l.c l.n l.m l.t l.initial.area l.area l.k l.i l.j

abbrev pub invariant-loop-k : goal.invariant-loop-k
invariant-loop-k l = CountTurn l.c l.n l.m l.t l.fn.area l.area l.k l.i l.j

abbrev pub decreases-loop-k : goal.decreases-loop-k
decreases-loop-k l = l.n - l.k
