use native.Mathlib.Omega.{arith}
use Rattle.prints.proofs.Counting.{touch-ready, count-ready, deliver-done}
use Rattle.prints.proofs.deliver.Goals as goal

pub touch-added-requires : goal.touch-added-requires
touch-added-requires c =
    let a = c.args in
    let p = c.requires in
    let g =
    touch-ready a.c a.area.now a.used a.key a.conn a.found p.fits p.tables_sound p.found_in p.free in
    record { table = g.0; stands = g.1.0; keys_bound = g.1.1 }

pub count-counts-requires : goal.count-counts-requires
count-counts-requires c =
    let a = c.args in
    let p = c.requires in
    let g =
    count-ready a.c a.area.now a.used a.key a.conn a.found p.fits p.tables_sound p.found_in p.free _ _
    c.touch-added.ensures
    c.touch-added.auto.area
    c.delivered-d.ensures
    (omega arith) in
    record { table = g.0; stands = g.1.0; counts_in_bounds = g.1.1.0; n_value = g.1.1.1 }

pub returns : goal.returns
returns c =
    let a = c.args in
    let p = c.requires in
    let g =
    deliver-done a.c a.area.now a.used a.key a.conn a.found p.fits p.tables_sound p.found_in p.free _ _
    c.touch-added.ensures
    c.touch-added.auto.area
    (omega arith)
    _
    _
    c.count-counts.ensures
    c.count-counts.auto.area in
    record { used_after = g.0; fits_2 = g.1 }
