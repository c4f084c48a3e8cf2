use Prim.Native.Nat.{◌+◌, ◌*◌, ◌<◌}
use mathlib.Core.Path.{ap}
use lib.ListN.{length}
use Rattle.rows.specs.Tables.{size}
use Rattle.prints.specs.Steps.{is_gap}
use Rattle.prints.proofs.Tables.{pair-at, pair-gap}
use Rattle.prints.proofs.Counting.{count-there, count-new}
use Rattle.prints.proofs.count.Goals as goal

pub returns-in-Ok : goal.returns-in-Ok
returns-in-Ok c =
    let a = c.args in
    count-there a.c a.counts a.key a.conn a.n a.area.now c.requires.table c.requires.n_value _
    (pair-at a.c a.counts a.area.now a.key a.conn c.requires.stands c.in-Ok.is)

pub returns-in-Err : goal.returns-in-Err
returns-in-Err c =
    let a = c.args in
    count-new a.c a.counts a.key a.conn a.n a.area.now c.requires.table c.requires.n_value _ _ _
    (pair-gap a.c a.counts a.area.now a.key a.conn c.requires.stands c.in-Err.is)
    ((let has_room_is : 4 * (c.args.c + size c.args.counts) + 3 < length c.args.area.now = c.requires.counts_in_bounds (ap is_gap c.in-Err.is) in has_room_is))
    c.add.auto.t
    c.add.ensures
