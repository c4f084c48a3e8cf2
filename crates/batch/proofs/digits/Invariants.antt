use mathlib.Core.Path.{◌≡◌}
use mathlib.Core.List.{◌++◌}
use Prim.Native.Nat.{◌-◌}
use lib.ListN.{length, take}
use Rattle.batch.specs.Batch.{bits}
use Rattle.batch.proofs.digits.Given as goal

abbrev pub invariant-loop-i : goal.invariant-loop-i
invariant-loop-i l = (length l.row ≡ 16) × (take l.i l.row ++ bits (l.n - l.i) l.rest ≡ bits l.n l.x)
