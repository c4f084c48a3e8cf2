use Rattle.words.specs.Words.{back}
use mathlib.Core.Path.{ap}
use Rattle.lines.proofs.area.set_line.Goals as goal

pub returns : goal.returns
returns c = ap (λ v. back 1 9 v c.args.area.now) c.put_line.ensures
