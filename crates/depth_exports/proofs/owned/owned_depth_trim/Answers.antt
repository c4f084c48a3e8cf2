use Rattle.depth_exports.proofs.Laws.{reported}
use Rattle.depth_exports.proofs.owned.owned_depth_trim.Goals as goal

pub returns : goal.returns
returns c = rw (← (reported c.args.is_reported c.args.best c.then_some.ensures)) c.trim.ensures
