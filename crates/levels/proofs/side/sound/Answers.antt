use mathlib.Core.Path.{sym, ◌∙◌}
use Rattle.levels.proofs.Reversed.{sound-reverse}
use Rattle.levels.proofs.side.sound.Goals as goal

pub returns : goal.returns
returns c = c.ordered_sound.ensures ∙ sym (sound-reverse _ _)
