use Rattle.store.proofs.ConnLaws.{lined-sound}
use Rattle.owned.proofs.owned_any_in_line.Goals as goal

pub any_in_line-requires : goal.any_in_line-requires
any_in_line-requires c = lined-sound _ c.requires
