use Rattle.prints.proofs.Tables.{pair-at, pair-gap, delivered-there, delivered-lacks}
use Rattle.prints.proofs.delivered.Goals as goal

pub returns-in-Ok : goal.returns-in-Ok
returns-in-Ok c =
    let a = c.args in
    delivered-there a.c a.area.now a.used c.requires.fits c.requires.tables_sound a.key a.conn _
    (pair-at a.c a.used.counts a.area.now a.key a.conn c.requires.pair_stands c.in-Ok.is)

pub returns-in-Err : goal.returns-in-Err
returns-in-Err c =
    let a = c.args in
    delivered-lacks a.c a.area.now a.used c.requires.fits c.requires.tables_sound a.key a.conn _
    (pair-gap a.c a.used.counts a.area.now a.key a.conn c.requires.pair_stands c.in-Err.is)
