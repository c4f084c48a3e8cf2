use mathlib.Core.Path.{◌≡◌}
use Prim.Native.Nat.{◌+◌, ◌≤◌, ◌-◌}
use lib.ListN.{length}
use Rattle.member_order.specs.Codes.{name_of}
use Rattle.member_order.specs.Names.{name_in}
use Rattle.member_order.specs.Order.{run}
use Rattle.member_order.proofs.Merged.{Merged}
use Rattle.member_order.proofs.sort.merge.Given as goal

abbrev pub invariant-loop-i : goal.invariant-loop-i
invariant-loop-i l = (length l.merged ≡ length l.initial.merged) × (l.i ≤ l.a) × (l.j ≤ l.b) × (l.count ≤ l.i + l.j)
    × Merged (name_of (name_in l.names)) (run l.words l.low l.a) (run l.words l.middle l.b) l.merged l.i l.j l.count

abbrev pub decreases-loop-i : goal.decreases-loop-i
decreases-loop-i l = (l.a + l.b) - (l.i + l.j)
