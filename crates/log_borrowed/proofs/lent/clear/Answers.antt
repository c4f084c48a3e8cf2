use Rattle.event_log.proofs.Changes.{clear-done}
use Rattle.log_borrowed.proofs.lent.clear.Goals as goal

pub returns-clause-by_index : goal.returns-clause-by_index
returns-clause-by_index c g w = clear-done g w c.args.head.now
