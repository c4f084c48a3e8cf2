use Rattle.rules.specs.Prints.{remove_counts}
use Rattle.store.proofs.TableLaws.{tables-part, tables-ready, tables-done}
use Rattle.store.proofs.tables.remove_counts.Goals as goal

pub remove_counts-new-requires : goal.remove_counts-new-requires
remove_counts-new-requires c =
    let g =
    tables-ready c.requires (tables-part _ c.tables_start-a.ensures c.lines_start-e.ensures) c.used-old.ensures in
    record { fits = g.0; tables_sound = g.1 }

pub returns : goal.returns
returns c =
    tables-done c.tables_start-a.ensures c.lines_start-e.ensures c.used-old.ensures c.remove_counts-new.new.area
    (remove_counts c.args.conn) c.requires c.remove_counts-new.auto.area c.remove_counts-new.result
    c.remove_counts-new.ensures.fits_2 c.remove_counts-new.ensures.result_after c.put_used.ensures
