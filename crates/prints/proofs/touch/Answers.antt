use Prim.Native.Nat.{◌<◌}
use mathlib.Core.Path.{ap}
use Rattle.rows.specs.Tables.{size}
use Rattle.prints.specs.Steps.{is_gap}
use Rattle.prints.proofs.Tables.{key-at, key-gap}
use Rattle.prints.proofs.Counting.{touch-there, touch-new}
use Rattle.prints.proofs.touch.Goals as goal

pub returns-in-Ok : goal.returns-in-Ok
returns-in-Ok c =
    let a = c.args in
    touch-there a.c a.keys a.key a.t a.area.now c.requires.table.0 c.requires.table.1.0 c.requires.table.1.1 _
    (key-at a.keys a.area.now a.key c.requires.stands c.in-Ok.is)

pub returns-in-Err : goal.returns-in-Err
returns-in-Err c =
    let a = c.args in
    touch-new a.c a.keys a.key a.t a.area.now c.requires.table.0 c.requires.table.1.0 c.requires.table.1.1 _ _ _
    (key-gap a.keys a.area.now a.key c.requires.stands c.in-Err.is)
    ((let has_room_is : size c.args.keys < c.args.c = c.requires.keys_bound (ap is_gap c.in-Err.is) in has_room_is))
    c.add.auto.t
    c.add.ensures
