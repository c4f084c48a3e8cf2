use Rattle.prints.proofs.Tables.{key-at, key-gap, applied-there, applied-lacks}
use Rattle.prints.proofs.applied.Goals as goal

pub returns-in-Ok : goal.returns-in-Ok
returns-in-Ok c =
    let a = c.args in
    applied-there a.c a.area.now a.used c.requires.fits c.requires.tables_sound a.key _
    (key-at a.used.keys a.area.now a.key c.requires.key_stands c.in-Ok.is)

pub returns-in-Err : goal.returns-in-Err
returns-in-Err c =
    let a = c.args in
    applied-lacks a.c a.area.now a.used c.requires.fits c.requires.tables_sound a.key _
    (key-gap a.used.keys a.area.now a.key c.requires.key_stands c.in-Err.is)
