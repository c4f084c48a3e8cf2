use Prim.Native.Nat.{◌≤◌}
use Rattle.member_order.specs.Order.{run, Rewritten}
use Rattle.member_order.proofs.sort.copy_back.Given as goal

abbrev pub invariant-loop-i : goal.invariant-loop-i
invariant-loop-i l = (l.i ≤ l.n) × Rewritten l.initial.words l.low l.i (run l.merged 0 l.i) l.words
