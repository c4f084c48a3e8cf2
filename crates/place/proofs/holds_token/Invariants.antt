-- No snapshot of token t stands before i.
use mathlib.Core.Path.{◌≡◌}
use lib.ListN.{drop}
use Rattle.rules.specs.Lists.{any}
use Rattle.rules.specs.Lines.{snapshot_of}
use Rattle.place.specs.Items.{items_in}
use Rattle.place.proofs.holds_token.Given as goal

abbrev pub invariant-loop-i : goal.invariant-loop-i
invariant-loop-i l = any (snapshot_of l.t) (items_in l.held l.items) ≡ any (snapshot_of l.t) (drop l.i (items_in l.held l.items))
