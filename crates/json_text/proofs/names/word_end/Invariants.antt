use mathlib.Core.Path.{◌≡◌}
use Prim.Native.Nat.{◌+◌, ◌≤◌}
use lib.ListN.{length, drop}
use Rattle.json_text.specs.Work.{word_rest}
use Rattle.json_text.proofs.names.word_end.Given as goal

abbrev pub invariant-loop-i : goal.invariant-loop-i
invariant-loop-i l = (word_rest l.word (drop l.at l.text) ≡ word_rest (drop l.i l.word) (drop (l.at + l.i) l.text)) × (l.at + l.i ≤ length l.text)
