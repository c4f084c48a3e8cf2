use Rattle.prints.proofs.Joining.{expire-none, expire-done}
use Rattle.prints.proofs.expiry.expire.Goals as goal

pub returns-then-all_fresh : goal.returns-then-all_fresh
returns-then-all_fresh c =
    record { result_after = expire-none _ _ _ c.requires.fits c.requires.tables_sound _ (c.all_fresh.ensures c.if-all_fresh.true); fits_2 = c.requires.fits }

pub returns : goal.returns
returns c =
    let g =
    expire-done _ _ _ c.requires.fits c.requires.tables_sound _ c.join.auto.area c.join.ensures _ _ _ _ _ c.keep_counts-counts.ensures c.keep_keys-keys.ensures
    c.keep_counts-counts.auto.area c.keep_keys-keys.auto.area in
    record { result_after = g.0; fits_2 = g.1 }
