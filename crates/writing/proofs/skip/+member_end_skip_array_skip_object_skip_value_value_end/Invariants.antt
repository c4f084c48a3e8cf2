-- The measure is three times what the text has from the place on, one more for value_end and two for skip_value, which call the next at their
-- own place; every other call is at a later one.
use mathlib.Core.Path.{◌≡◌}
use Prim.Native.Nat.{ℕ, ◌+◌, ◌*◌, ◌-◌}
use lib.ListN.{length}
use Rattle.json_text.specs.Values.{Members}
use Rattle.writing.specs.Places.{Spans, Ends}
use Rattle.writing.proofs.Arrays.{InArray}
use Rattle.writing.proofs.Objects.{InObject}
use Rattle.writing.proofs.skip.+member_end_skip_array_skip_object_skip_value_value_end.Given as goal

abbrev pub decreases-member_end : goal.decreases-member_end
decreases-member_end l = 3 * (length l.text.now - l.at)

abbrev pub decreases-skip_array : goal.decreases-skip_array
decreases-skip_array l = 3 * (length l.text.now - l.at)

abbrev pub decreases-skip_object : goal.decreases-skip_object
decreases-skip_object l = 3 * (length l.text.now - l.at)

abbrev pub decreases-skip_value : goal.decreases-skip_value
decreases-skip_value l = 3 * (length l.text.now - l.at) + 2

abbrev pub decreases-value_end : goal.decreases-value_end
decreases-value_end l = 3 * (length l.text.now - l.at) + 1

abbrev pub invariant-skip_array-loop-at : goal.invariant-skip_array-loop-at
invariant-skip_array-loop-at l = InArray l.text l.at l.i × Ends l.text l.ends × (length l.ends ≡ length l.initial.ends)

abbrev pub decreases-skip_array-loop-at : goal.decreases-skip_array-loop-at
decreases-skip_array-loop-at l = length l.text - l.i

abbrev pub invariant-skip_object-loop-at : goal.invariant-skip_object-loop-at
invariant-skip_object-loop-at l = ((e : ℕ) × (ms : Members) × Spans l.text l.at e × InObject l.text l.at e l.i ms) × Ends l.text l.ends × (length l.ends ≡ length l.initial.ends)

abbrev pub decreases-skip_object-loop-at : goal.decreases-skip_object-loop-at
decreases-skip_object-loop-at l = length l.text - l.i
