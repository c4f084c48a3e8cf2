use Rattle.rows.proofs.Removing.{removed}
use Rattle.rows.proofs.removal.remove.Goals as goal

pub returns : goal.returns
returns c =
    removed _ _ _ _ _ _ _ _ c.requires c.keep_others-old.ensures c.keep_others-new.ensures
