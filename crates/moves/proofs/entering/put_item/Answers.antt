use Rattle.moves.proofs.EnteringLaws.{event-done}
use Rattle.moves.proofs.entering.put_item.Goals as goal

pub returns-in-Event : goal.returns-in-Event
returns-in-Event c =
    rw c.in-Event.is (event-done c.args.conn c.args.t _ _ c.push_out.ensures)
