use Prim.Native.Nat.{◌-◌}
use Rattle.rows.specs.Rows.{row_in}
use Rattle.rows.proofs.Search.{Bracket}
use Rattle.rows.proofs.halve.Given as goal

abbrev pub invariant-loop-lo : goal.invariant-loop-lo
invariant-loop-lo l = Bracket l.key.three (row_in l.b l.t) l.n l.key.x l.key.y l.key.z l.lo l.hi

abbrev pub decreases-loop-lo : goal.decreases-loop-lo
decreases-loop-lo l = l.hi - l.lo
