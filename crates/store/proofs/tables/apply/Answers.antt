use Rattle.rules.specs.Prints.{apply_print}
use Rattle.store.proofs.TableLaws.{tables-part, tables-ready, key_here, rows-done}
use Rattle.store.proofs.tables.apply.Goals as goal

pub apply-requires : goal.apply-requires
apply-requires c =
    let p = tables-part _ c.tables_start-a.ensures c.lines_start-e.ensures in
    let r = tables-ready c.requires.0 p c.used-old.ensures in
    record { fits = r.0; tables_sound = r.1; key_stands = key_here c.requires.0 p c.used-old.ensures c.args.key c.args.place c.requires.1 }

pub returns : goal.returns
returns c =
    rows-done c.tables_start-a.ensures c.lines_start-e.ensures c.used-old.ensures c.apply.new.area
    (apply_print c.args.key c.args.n) c.requires.0 c.apply.auto.area c.apply.ensures
