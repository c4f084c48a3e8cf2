use mathlib.Core.Path.{◌≡◌}
use Rattle.place.proofs.Items.{items-none}
use Rattle.lines.proofs.Line.pending_since.Goals as goal

pub returns : goal.returns
returns c w = rw (items-none w)
