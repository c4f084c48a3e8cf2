use Rattle.store.proofs.TableLaws.{tables-part}
use Rattle.store.proofs.tables.area.Goals as goal

pub returns : goal.returns
returns c = tables-part _ c.tables_start-a.ensures c.lines_start-e.ensures
