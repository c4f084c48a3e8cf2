use mathlib.Core.Path.{◌≡◌}
use mathlib.Core.Bool.{true}
use Prim.Native.Nat.{ℕ, ◌≤◌, ◌<◌}
use Rattle.prints.specs.Area.{key_at}
use Rattle.prints.proofs.Staying.{stays}
use Rattle.prints.proofs.expiry.all_fresh.Given as goal

abbrev pub invariant-loop-i : goal.invariant-loop-i
invariant-loop-i l = (l.i ≤ l.n) × ((k : ℕ) → k < l.i → stays l.t (key_at l.area k) ≡ true)
