use Rattle.event_log.proofs.Changes.{push-done}
use Rattle.log_borrowed.proofs.lent.push.Goals as goal

pub returns-clause-head_after : goal.returns-clause-head_after
returns-clause-head_after c = push-done c.args.key c.args.t c.requires.0 c.requires.1 c.put.ensures
