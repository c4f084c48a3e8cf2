use Prim.Native.Nat.{◌+◌, ◌≤◌}
use Rattle.member_order.specs.Names.{name_in}
use Rattle.member_order.proofs.CodeSteps.{Coding}
use Rattle.member_order.proofs.codes.code.Given as goal

abbrev pub invariant-loop-i : goal.invariant-loop-i
invariant-loop-i l = Coding (name_in l.names l.at) l.i l.code (name_in l.names l.end) × (l.end ≤ l.at + l.i)
