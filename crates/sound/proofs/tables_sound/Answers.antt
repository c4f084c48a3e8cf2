use mathlib.Core.Path.{ap}
use Rattle.rules.specs.declared.Limits.{Limits}
use Rattle.sound.proofs.HeaderLaws.{tables-ready, tables-say}
use Rattle.sound.proofs.tables_sound.Goals as goal

pub tables_sound-requires : goal.tables_sound-requires
tables_sound-requires c =
    tables-ready c.args.s.now _ _ _ (ap (λ (x : Limits). x.C) c.limits-c.ensures) c.area.ensures c.used.ensures c.requires.0 c.requires.1

pub returns : goal.returns
returns c =
    tables-say c.args.s.now _ _ _ (ap (λ (x : Limits). x.C) c.limits-c.ensures)
    c.area.ensures c.used.ensures
    c.tables_sound.result c.tables_sound.ensures
