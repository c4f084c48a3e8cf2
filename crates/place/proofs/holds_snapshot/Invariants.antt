-- No snapshot stands before i.
use mathlib.Core.Path.{◌≡◌}
use lib.ListN.{drop}
use Rattle.rules.specs.Lists.{any}
use Rattle.rules.specs.Lines.{is_snapshot}
use Rattle.place.specs.Items.{items_in}
use Rattle.place.proofs.holds_snapshot.Given as goal

abbrev pub invariant-loop-i : goal.invariant-loop-i
invariant-loop-i l = any is_snapshot (items_in l.held l.items) ≡ any is_snapshot (drop l.i (items_in l.held l.items))
