use mathlib.Core.Path.{◌≡◌}
use Prim.Native.Nat.{◌≤◌}
use lib.ListN.{length}
use Rattle.replay.specs.Room.{Roomy}
use Rattle.replay.proofs.answers.put_answers.Given as goal

abbrev pub invariant-loop-a : goal.invariant-loop-a
invariant-loop-a g l = record {
  same : l.lines.text.ghost_name ≡ l.initial.lines.text.ghost_name;
  roomy : Roomy l.lines;
  records : length l.out ≤ 4046;
  reports : length l.reports ≤ 24;
}
