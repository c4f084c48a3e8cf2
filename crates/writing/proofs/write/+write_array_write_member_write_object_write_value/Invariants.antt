-- The measure is how much work is left, by the room for places, the bytes of the text and the function at work.
use Prim.Native.Nat.{◌-◌}
use lib.ListN.{length}
use Rattle.json_text.proofs.Inversion.{ItemsAt}
use Rattle.writing.proofs.ArrayLaws.{Progress}
use Rattle.writing.proofs.ObjectLaws.{MembersDone}
use Rattle.writing.proofs.RankLaws.{rank}
use Rattle.writing.proofs.write.+write_array_write_member_write_object_write_value.Given as goal

abbrev pub decreases-write_array : goal.decreases-write_array
decreases-write_array l = rank (length l.places.now - l.top) (length l.text.now) l.at 1

abbrev pub decreases-write_member : goal.decreases-write_member
decreases-write_member l = rank (length l.places.now - l.top) (length l.text.now) l.at 3

abbrev pub decreases-write_object : goal.decreases-write_object
decreases-write_object l = rank (length l.places.now - l.top) (length l.text.now) l.at 1

abbrev pub decreases-write_value : goal.decreases-write_value
decreases-write_value l = rank (length l.places.now - l.top) (length l.text.now) l.at 2

abbrev pub invariant-write_array-loop-out : goal.invariant-write_array-loop-out
invariant-write_array-loop-out l = Progress ItemsAt l.text l.initial.ends l.initial.places l.initial.merged l.initial.names l.initial.out l.ends l.places l.merged l.names l.out l.at l.top l.pos l.i l.end l.count

abbrev pub decreases-write_array-loop-out : goal.decreases-write_array-loop-out
decreases-write_array-loop-out l = length l.text - l.i

abbrev pub invariant-write_object-loop-i : goal.invariant-write_object-loop-i
invariant-write_object-loop-i l = MembersDone l.text l.initial.ends l.initial.places l.initial.merged l.initial.names l.initial.out l.ends l.places l.merged l.names l.out l.top l.count l.initial.end l.i l.end
