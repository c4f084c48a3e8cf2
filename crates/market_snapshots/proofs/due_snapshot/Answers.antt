use mathlib.Core.Path.{◌∙◌}
use Rattle.market_snapshots.proofs.SnapshotLaws.{line_at}
use Rattle.market_snapshots.proofs.DueLaws.{due-ready, due-done}
use Rattle.market_snapshots.proofs.due_snapshot.Goals as goal

pub conn_at-conn-requires : goal.conn_at-conn-requires
conn_at-conn-requires c =
    line_at c.requires.0.sound c.requires.1.here

pub set_line-requires : goal.set_line-requires
set_line-requires c =
    line_at c.requires.0.sound c.requires.1.here

pub align_pending-requires : goal.align_pending-requires
align_pending-requires c =
    due-ready c.args.message c.args.t c.requires.0 c.requires.1 c.set_line.ensures c.put_snapshot-n.ensures c.conn_at-conn.ensures
    c.put_snapshot-n.auto.out

pub returns : goal.returns
returns c =
    due-done c.args.message c.args.t c.requires.0 c.requires.1 c.set_line.ensures c.put_snapshot-n.ensures c.conn_at-conn.ensures
    (c.align_pending.auto.s ∙ c.put_snapshot-n.auto.s ∙ c.set_line.auto.s) c.align_pending.ensures
