use Rattle.lines.proofs.AreaLaws.{drop-prints-done}
use Rattle.lines.proofs.area.drop_prints.Goals as goal

pub returns : goal.returns
returns c = drop-prints-done _ _ c.requires _ c.set_prints.ensures
