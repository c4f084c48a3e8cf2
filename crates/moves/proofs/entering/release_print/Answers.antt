use Rattle.moves.proofs.EnteringLaws.{print-out-done, print-kept-done}
use Rattle.moves.proofs.entering.release_print.Goals as goal

pub returns-then-applied-delivered : goal.returns-then-applied-delivered
returns-then-applied-delivered c =
    print-out-done _ c.args.conn _ _ _ _ c.delivered-delivered.ensures c.applied-applied.ensures c.requires.1 c.if-applied-delivered.true c.apply.ensures c.put_record.ensures

pub returns : goal.returns
returns c =
    print-kept-done _ c.args.conn _ _ _ _ c.delivered-delivered.ensures c.applied-applied.ensures c.requires.0.sized c.if-applied-delivered.false
