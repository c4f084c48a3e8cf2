use Prim.Native.Nat.{◌≤◌}
use Rattle.rows.proofs.Moves.{Raised}
use Rattle.rows.proofs.shift.Given as goal

abbrev pub invariant-loop-j : goal.invariant-loop-j
invariant-loop-j l = (l.i ≤ l.j) × Raised l.initial.t l.t l.j l.n l.d
