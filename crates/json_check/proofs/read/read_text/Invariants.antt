-- What is found from the step on is found from the start of the text on. The measure is what is left to read.
use mathlib.Core.Path.{◌≡◌}
use lib.ListN.{length}
use Rattle.json_check.proofs.Readings.{Reached, left}
use Rattle.json_check.proofs.read.read_text.Given as goal

abbrev pub invariant-loop-step : goal.invariant-loop-step
invariant-loop-step l = (length l.opened ≡ length l.initial.opened) × Reached l.text l.opened l.step

abbrev pub decreases-loop-step : goal.decreases-loop-step
decreases-loop-step l = left l.text l.step
