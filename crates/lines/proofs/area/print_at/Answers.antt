use Rattle.lines.proofs.AreaLaws.{print-at-done}
use Rattle.lines.proofs.area.print_at.Goals as goal

pub returns : goal.returns
returns c = print-at-done _ _ _ c.requires.1 _ c.print_in.ensures
