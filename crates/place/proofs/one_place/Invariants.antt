-- `Search` has what each loop has come to and a law for each way through a turn; here they are put at the code's places.
use mathlib.Core.List.{List}
use Prim.Native.Nat.{ℕ, ◌+◌, ◌-◌}
use Rattle.rules.specs.Quantities.{Key}
use Rattle.event_log.specs.Log.{key_in, entry_place}
use Rattle.place.proofs.Search as find
use Rattle.place.proofs.one_place.Given as goal

-- the log's keys
abbrev logged : ℕ → ℕ → List ℕ → ℕ → Key
logged g front keys i = key_in keys (entry_place g front i)

abbrev pub invariant-loop-i : goal.invariant-loop-i
invariant-loop-i l = find.Walk l.quiet (logged l.g l.front l.keys) l.count l.base l.items l.held l.first l.found l.q l.x l.j l.cj l.start l.i l.l

abbrev pub decreases-loop-i : goal.decreases-loop-i
decreases-loop-i l = l.held - l.i

abbrev pub invariant-places : goal.invariant-places
invariant-places l = find.Search l.quiet (logged l.g l.front l.keys) l.count l.base l.items l.held l.first l.found l.q l.x l.j

abbrev pub decreases-places : goal.decreases-places
decreases-places l = (l.count - l.q) + (l.held - l.x)
