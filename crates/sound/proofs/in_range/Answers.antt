use Rattle.rules.specs.Quantities.{in_range}
use mathlib.Core.Path.{refl}
use Rattle.sound.proofs.in_range.Goals as goal

pub returns : goal.returns
unfolding in_range
returns c = refl
