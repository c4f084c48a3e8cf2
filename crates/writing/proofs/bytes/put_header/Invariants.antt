use mathlib.Core.Path.{◌≡◌}
use Prim.Native.Nat.{◌+◌, ◌-◌, ◌≤◌}
use lib.ListN.{length}
use Rattle.writing.specs.Writing.{written}
use Rattle.writing.proofs.PutLaws.{zeros}
use Rattle.writing.proofs.bytes.put_header.Given as goal

abbrev pub invariant-loop-i : goal.invariant-loop-i
invariant-loop-i l = (3 ≤ l.i) × (l.i ≤ 9) × (length l.out ≡ length l.initial.out) × (l.out ≡ written (l.pos + 3) (zeros (l.i - 3)) l.initial.out)
