use Rattle.moves.proofs.PushLaws.{past-snapshot, past-event, push-event}
use Rattle.moves.proofs.lining_up.push_past.Goals as goal

pub returns-in-Snapshot-clause-does : goal.returns-in-Snapshot-clause-does
returns-in-Snapshot-clause-does c = past-snapshot c.args.conn c.args.t c.args.past.skip c.args.item c.in-Snapshot.is c.requires.sized

pub returns-then-past-gt0-clause-does : goal.returns-then-past-gt0-clause-does
returns-then-past-gt0-clause-does c = past-event c.args.conn c.args.t c.args.past.skip c.args.item c.in-Event.is c.if-past-gt0.true c.requires.sized

pub returns-else-past-gt0-clause-does : goal.returns-else-past-gt0-clause-does
returns-else-past-gt0-clause-does c = push-event c.args.conn c.args.t c.args.past.skip c.args.item c.in-Event.is c.if-past-gt0.false c.push_out-n.ensures
