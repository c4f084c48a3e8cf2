use mathlib.Core.Path.{◌≡◌}
use Prim.Native.Nat.{◌+◌}
use lib.ListN.{length, drop}
use Rattle.rules.specs.Lines.{events}
use Rattle.place.specs.Items.{items_in}
use Rattle.place.proofs.count_events.Given as goal

abbrev pub invariant-loop-i : goal.invariant-loop-i
invariant-loop-i l = l.count + length (events (drop l.i (items_in l.n l.items))) ≡ length (events (items_in l.n l.items))
