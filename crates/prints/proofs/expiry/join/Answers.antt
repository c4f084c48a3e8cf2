use Rattle.prints.proofs.Tables.{keys-table}
use Rattle.prints.proofs.Joining.{counts-ready, join-done}
use Rattle.prints.proofs.expiry.join.Goals as goal

pub join-requires : goal.join-requires
join-requires c = keys-table _ _ _ c.requires.fits c.requires.tables_sound

pub join-requires-2 : goal.join-requires-2
join-requires-2 c =
    counts-ready _ _ _ c.requires.fits c.requires.tables_sound _ c.join.auto.t c.join.ensures

pub returns : goal.returns
returns c =
    join-done _ _ _ c.requires.fits c.requires.tables_sound _ c.join.auto.t c.join.ensures _ c.join-2.ensures
