use Prim.Native.Nat.{◌≤◌}
use Rattle.calls_points.proofs.reading.numbers.Given as goal

abbrev pub invariant-loop-c : goal.invariant-loop-c
invariant-loop-c l = l.k ≤ l.c-index
