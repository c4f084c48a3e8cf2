use Rattle.lines.proofs.AreaLaws.{prints-put}
use Rattle.lines.proofs.area.put_print.Goals as goal

pub returns : goal.returns
returns c = rw c.copy_from_slice.ensures.after (prints-put c.args.n _ _ _ _ c.requires)
