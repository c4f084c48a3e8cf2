-- No event stands from `from` to i.
use mathlib.Core.Path.{◌≡◌}
use Prim.Native.Nat.{◌+◌, ◌-◌, ◌≤◌}
use lib.ListN.{drop}
use Rattle.rules.specs.Lists.{index}
use Rattle.place.specs.Items.{items_in, is_event}
use Rattle.place.proofs.next_event.Given as goal

abbrev pub invariant-loop-i : goal.invariant-loop-i
invariant-loop-i l = (l.i ≤ l.held) × (l.from + index is_event (drop l.from (items_in l.held l.items)) ≡ l.i + index is_event (drop l.i (items_in l.held l.items)))

abbrev pub decreases-loop-i : goal.decreases-loop-i
decreases-loop-i l = l.held - l.i
