use Rattle.rules.specs.Prints.{counted}
use Rattle.store.proofs.TableLaws.{tables-part, deliver-ready, header-kept, tables-done, key-done}
use Rattle.store.proofs.tables.deliver.Goals as goal

pub deliver-counted-requires : goal.deliver-counted-requires
deliver-counted-requires c =
    let g =
    deliver-ready c.requires.tabled.0 (tables-part _ c.tables_start-a.ensures c.lines_start-e.ensures) c.used-old.ensures c.requires.tabled.1 c.requires.s_value c.requires.s_bound in
    record { fits = g.0; tables_sound = g.1.0; found_in = g.1.1.0; free = g.1.1.1.0; used_bound = g.1.1.1.1 }

pub put_used-requires : goal.put_used-requires
put_used-requires c =
    header-kept c.tables_start-a.ensures c.lines_start-e.ensures c.used-old.ensures c.deliver-counted.new.area
    (counted c.args.key c.args.conn c.args.t) c.requires.tabled.0 c.deliver-counted.auto.area

pub returns : goal.returns
returns c =
    let new = c.deliver-counted.result in record {
      moved = tables-done c.tables_start-a.ensures c.lines_start-e.ensures c.used-old.ensures c.deliver-counted.new.area
          (counted c.args.key c.args.conn c.args.t) c.requires.tabled.0 c.deliver-counted.auto.area new.used c.deliver-counted.ensures.fits_2.0 c.deliver-counted.ensures.used_after c.put_used.ensures;
      key_found = key-done c.tables_start-a.ensures c.lines_start-e.ensures c.used-old.ensures c.deliver-counted.new.area
          (counted c.args.key c.args.conn c.args.t) c.requires.tabled.0 c.deliver-counted.auto.area new.used c.args.key new.key c.deliver-counted.ensures.fits_2.1 c.put_used.ensures;
    }
