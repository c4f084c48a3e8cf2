use mathlib.Core.Path.{refl}
use Rattle.lines.specs.Area.{conn_of}
use Rattle.lines.proofs.area.limit.Goals as goal

pub returns : goal.returns
unfolding conn_of
returns c h = refl
