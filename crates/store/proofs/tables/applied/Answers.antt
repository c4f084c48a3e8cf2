use Rattle.rules.specs.Prints.{applied_in}
use Rattle.store.proofs.TableLaws.{prints-say, tables-ready, key_here}
use Rattle.store.proofs.tables.applied.Goals as goal

pub applied-requires : goal.applied-requires
applied-requires c =
    let r = tables-ready c.requires.0 c.area.ensures c.used.ensures in
    record { fits = r.0; tables_sound = r.1; key_stands = key_here c.requires.0 c.area.ensures c.used.ensures c.args.key c.args.place c.requires.1 }

pub returns : goal.returns
returns c =
    prints-say c.requires.0 c.area.ensures c.used.ensures (λ p. applied_in c.args.key p.key_rows) c.applied.ensures
