use mathlib.Core.Path.{◌≡◌}
use lib.ListN.{drop}
use Rattle.json_text.specs.Work.{skip_ws}
use Rattle.json_text.proofs.bytes.skip_ws.Given as goal

abbrev pub invariant-loop-i : goal.invariant-loop-i
invariant-loop-i l = skip_ws (drop l.at l.text) ≡ skip_ws (drop l.i l.text)
