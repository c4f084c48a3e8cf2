use Rattle.prints.proofs.Tables.{key-at, key-gap, apply-there, apply-lacks}
use Rattle.prints.proofs.apply.Goals as goal

pub returns-in-Ok : goal.returns-in-Ok
returns-in-Ok c =
    let a = c.args in
    apply-there a.c a.area.now a.used c.requires.fits c.requires.tables_sound a.key _
    (key-at a.used.keys a.area.now a.key c.requires.key_stands c.in-Ok.is)
    a.n

pub returns-in_default : goal.returns-in_default
returns-in_default c =
    let a = c.args in
    apply-lacks a.c a.area.now a.used c.requires.fits c.requires.tables_sound a.key _
    (key-gap a.used.keys a.area.now a.key c.requires.key_stands c.in_default.is)
    a.n
