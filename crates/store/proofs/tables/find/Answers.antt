use Rattle.store.proofs.TableLaws.{tables-ready, found-done}
use Rattle.store.proofs.tables.find.Goals as goal

pub find-requires : goal.find-requires
find-requires c = (tables-ready c.requires c.area.ensures c.used.ensures).0

pub returns : goal.returns
returns c =
    found-done c.requires c.area.ensures c.used.ensures c.find.ensures
