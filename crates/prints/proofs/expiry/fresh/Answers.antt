use Rattle.prints.proofs.Staying.{stays_by}
use Rattle.prints.proofs.expiry.fresh.Goals as goal

pub returns : goal.returns
returns c = stays_by _ _ _ _ c.saturating_sub.ensures
