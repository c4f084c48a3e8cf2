use mathlib.Core.Path.{◌≡◌}
use Prim.Native.Nat.{◌+◌, ◌<◌}
use lib.ListN.{length}
use Rattle.place.proofs.Next.{held_from}
use Rattle.place.proofs.holds_run.Given as goal

abbrev pub invariant-loop-i : goal.invariant-loop-i
invariant-loop-i l = (l.n < 4) × (length (held_from l.items l.held 0) ≡ l.n + length (held_from l.items l.held l.i))
