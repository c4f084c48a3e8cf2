use Rattle.place.proofs.Items.{items-none}
use Rattle.lines.proofs.Line.waiting.Goals as goal

pub returns : goal.returns
returns c w = rw (items-none w)
