use mathlib.Core.Path.{◌≡◌}
use lib.ListN.{drop}
use Rattle.json_text.specs.Work.{skip_digits}
use Rattle.json_text.proofs.numbers.digits_end.Given as goal

abbrev pub invariant-loop-i : goal.invariant-loop-i
invariant-loop-i l = skip_digits (drop l.at l.text) ≡ skip_digits (drop l.i l.text)
