use Rattle.moves.proofs.EnteringLaws.{put-snapshot-done}
use Rattle.moves.proofs.entering.put_snapshot.Goals as goal

pub returns : goal.returns
returns c =
    λ token. put-snapshot-done c.args.conn c.requires.1 c.args.t token c.args.message c.stamp.ensures c.put_record.ensures
