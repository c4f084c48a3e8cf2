use mathlib.Core.Path.{◌≡◌}
use lib.ListN.{length}
use Rattle.replay.specs.Room.{Roomy}
use Rattle.replay.proofs.Market.run.Given as goal

abbrev pub invariant-loop-blocks : goal.invariant-loop-blocks
invariant-loop-blocks g l = Roomy l.lines × (length l.input ≡ length l.initial.input)
