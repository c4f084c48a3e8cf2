use mathlib.Core.Path.{◌≡◌}
use mathlib.Core.List.{map}
use Rattle.rules.specs.Lines.{message_of}
use Rattle.words.specs.Words.{over}
use Rattle.place.specs.Items.{items_in}
use Rattle.place.proofs.put_messages.Given as goal

abbrev pub invariant-loop-i : goal.invariant-loop-i
invariant-loop-i l = l.list ≡ over (map message_of (items_in l.i l.items)) l.initial.list
