use Rattle.rules.specs.Prints.{expire_prints}
use Rattle.store.proofs.TableLaws.{tables-part, tables-ready, tables-done}
use Rattle.store.proofs.tables.expire.Goals as goal

pub expire-new-requires : goal.expire-new-requires
expire-new-requires c =
    let g =
    tables-ready c.requires (tables-part _ c.tables_start-a.ensures c.lines_start-e.ensures) c.used-old.ensures in
    record { fits = g.0; tables_sound = g.1 }

pub returns : goal.returns
returns c =
    tables-done c.tables_start-a.ensures c.lines_start-e.ensures c.used-old.ensures c.expire-new.new.area
    (expire_prints c.args.t) c.requires c.expire-new.auto.area c.expire-new.result c.expire-new.ensures.fits_2 c.expire-new.ensures.result_after c.put_used.ensures
