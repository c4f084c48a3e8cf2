use native.Mathlib.Omega.{arith}
use Rattle.rows.proofs.Copies.{copied-fits, copied-rows}
use Rattle.rows.proofs.tables.join_by.Goals as goal

pub settle_all-requires : goal.settle_all-requires
settle_all-requires c = record { table = c.requires.0; u_in_bounds = (copied-fits _ _ _ c.copy_from_slice.ensures.len c.requires.1, copied-rows _ _ _ _ _ (omega (arith, c.requires.0.lies.inside)) c.copy_from_slice.ensures.after) }
