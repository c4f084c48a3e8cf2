use Rattle.store.proofs.TableLaws.{tables-fit, tables-sound, found_here, no-row-done}
use Rattle.store.proofs.tables.no_row.Goals as goal

pub no_row-requires : goal.no_row-requires
no_row-requires c =
    let a = c.area.ensures in
    record { fit = tables-fit c.requires.0 a c.used.ensures; tables_sound = tables-sound c.requires.0 a c.used.ensures; found_in = found_here c.requires.0 a c.used.ensures c.requires.1 }

pub returns : goal.returns
returns c =
    no-row-done c.requires.0 c.area.ensures c.used.ensures c.args.key c.args.conn c.no_row.ensures
