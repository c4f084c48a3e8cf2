use Rattle.prints.proofs.Tables.{counts-table}
use Rattle.prints.proofs.Removing.{removed-counts}
use Rattle.prints.proofs.remove_counts.Goals as goal

pub remove-counts-requires : goal.remove-counts-requires
remove-counts-requires c = counts-table _ _ _ c.requires.fits c.requires.tables_sound

pub returns : goal.returns
returns c =
    let g =
    removed-counts _ _ _ c.requires.fits _ _ c.remove-counts.auto.t _ c.remove-counts.ensures in
    record { result_after = g.0; fits_2 = g.1 }
