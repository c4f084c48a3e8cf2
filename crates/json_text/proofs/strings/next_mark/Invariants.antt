use mathlib.Core.Path.{◌≡◌}
use lib.ListN.{drop}
use Rattle.json_text.specs.Work.{to_mark}
use Rattle.json_text.proofs.strings.next_mark.Given as goal

abbrev pub invariant-loop-i : goal.invariant-loop-i
invariant-loop-i l = to_mark (drop l.at l.text) ≡ to_mark (drop l.i l.text)
