use mathlib.Core.Path.{◌≡◌}
use Prim.Native.Nat.{◌-◌}
use lib.ListN.{length}
use Rattle.member_order.specs.Names.{name_in, order_of}
use Rattle.member_order.proofs.compare.compare.Given as goal

abbrev pub invariant-loop-p : goal.invariant-loop-p
invariant-loop-p l = order_of (name_in l.names l.i) (name_in l.names l.j) ≡ order_of (name_in l.names l.p) (name_in l.names l.q)

abbrev pub decreases-loop-p : goal.decreases-loop-p
decreases-loop-p l = length l.names - l.i
