use Rattle.place.specs.Items.{first_at, Passed}
use Rattle.place.proofs.next_key.Given as goal

abbrev pub invariant-loop-i : goal.invariant-loop-i
invariant-loop-i l = Passed (first_at l.keys) l.count l.k l.from l.i
