use Rattle.rules.specs.Prints.{delivered_in}
use Rattle.store.proofs.TableLaws.{prints-say, tables-ready, found_here}
use Rattle.store.proofs.tables.delivered.Goals as goal

pub delivered-requires : goal.delivered-requires
delivered-requires c =
    let r = tables-ready c.requires.0 c.area.ensures c.used.ensures in
    record { fits = r.0; tables_sound = r.1; pair_stands = (found_here c.requires.0 c.area.ensures c.used.ensures c.requires.1).pair }

pub returns : goal.returns
returns c =
    prints-say c.requires.0 c.area.ensures c.used.ensures (λ p. delivered_in c.args.key c.args.conn p.count_rows) c.delivered.ensures
