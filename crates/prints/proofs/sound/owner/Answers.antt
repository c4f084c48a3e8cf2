use native.Mathlib.Omega.{arith}
use Rattle.rows.specs.Rows.{row_at}
use Rattle.rows.proofs.Search.{found, missed}
use Rattle.prints.proofs.Keyed.{past-below, owned-old, owned-new, owned-not}
use Rattle.prints.proofs.sound.owner.Goals as goal

pub next_key-requires : goal.next_key-requires
unfolding row_at
next_key-requires c =
    let s = c.requires in
    record { n_in_bounds = (omega (arith, s.table.0.lies.inside), s.rises.1.old.within); key_value = past-below _ _ _ _ _ _ s.rises.1.old s.rises.0 }

pub next_key-requires-in-Err : goal.next_key-requires-in-Err
unfolding row_at
next_key-requires-in-Err c =
    let s = c.requires in
    record { n_in_bounds = (omega (arith, s.table.0.lies.inside), s.rises.1.new.within); key_value = past-below _ _ _ _ _ _ s.rises.1.new s.rises.0 }

pub returns-in-Ok : goal.returns-in-Ok
unfolding row_at
returns-in-Ok c =
    let s = c.requires in
    owned-old _ _ _ _ _ s.rises.1 s.table.0 s.rises.0 _ (found c.next_key.ensures c.in-Ok.is)

pub returns-in-Ok-next_key : goal.returns-in-Ok-next_key
unfolding row_at
returns-in-Ok-next_key c =
    let s = c.requires in
    owned-new _ _ _ _ _ s.rises.1 s.table.0 s.rises.0 _ _
    (missed c.next_key.ensures c.in-Err.is)
    (found c.next_key-in-Err.ensures c.in-Ok-next_key.is)

pub returns-in-Err-next_key : goal.returns-in-Err-next_key
unfolding row_at
returns-in-Err-next_key c =
    let s = c.requires in
    owned-not _ _ _ _ _ s.rises.1 s.table.0 s.rises.0 _ _
    (missed c.next_key.ensures c.in-Err.is)
    (missed c.next_key-in-Err.ensures c.in-Err-next_key.is)
