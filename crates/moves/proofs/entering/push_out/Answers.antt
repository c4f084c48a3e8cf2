use Rattle.moves.proofs.EnteringLaws.{push-out-done}
use Rattle.moves.proofs.entering.push_out.Goals as goal

pub returns : goal.returns
returns c =
    push-out-done c.args.conn c.requires.room c.args.t c.args.key c.args.message _ c.end-number.ensures c.push.ensures c.put_record.ensures
