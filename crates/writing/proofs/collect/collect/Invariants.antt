use mathlib.Core.Path.{◌≡◌}
use Prim.Native.Nat.{◌-◌}
use lib.ListN.{length}
use Rattle.writing.specs.Places.{Ends}
use Rattle.writing.proofs.Gathering.{Gathering}
use Rattle.writing.proofs.collect.collect.Given as goal

abbrev pub invariant-loop-at : goal.invariant-loop-at
invariant-loop-at l = Gathering l.text l.initial.places l.places l.names l.at l.top l.i l.count × Ends l.text l.ends × (length l.ends ≡ length l.initial.ends) × (length l.places ≡ length l.initial.places)
    × (length l.names ≡ length l.initial.names)

abbrev pub decreases-loop-at : goal.decreases-loop-at
decreases-loop-at l = length l.text - l.i
