use Rattle.store.proofs.ConnLaws.{put-waiting-done}
use Rattle.store.proofs.conns.put_waiting.Goals as goal

pub returns : goal.returns
returns c =
    put-waiting-done _ _ _ _ c.line_start-a.ensures.start c.line_end-e.ensures.end c.requires c.args.conn c.args.limit c.args.t _ c.put_waiting.auto.area c.put_waiting.ensures
