use mathlib.Core.Path.{◌≡◌}
use Prim.Native.Nat.{◌+◌, ◌-◌, ◌≤◌}
use lib.ListN.{length}
use Rattle.replay.specs.Room.{Roomy}
use Rattle.replay.proofs.Market.records.Given as goal

abbrev pub invariant-loop-at : goal.invariant-loop-at
invariant-loop-at g l = record {
  same : l.lines.text.ghost_name ≡ l.initial.lines.text.ghost_name;
  roomy : Roomy l.lines;
  most : l.number ≤ l.first + l.at;
}

abbrev pub decreases-loop-at : goal.decreases-loop-at
decreases-loop-at g l = length l.input - l.at
