use Rattle.std.proofs.lemmas.Result.{err_from_is_err_and}
use mathlib.Core.Path.{sym, ◌∙◌}
use Rattle.market_snapshots.proofs.SnapshotLaws.{line_at}
use Rattle.market_events.proofs.LeadLaws.{new-full, new-room, new-at, new-ready, new-done}
use Rattle.market_events.proofs.new_event.Goals as goal

pub returns-in_err-room : goal.returns-in_err-room
returns-in_err-room c =
    let p = err_from_is_err_and c.from_residual.result c.from_residual.ensures.1 in
    rw (p.1, p.2) (new-full c.args.key c.args.message c.args.t c.requires.0 c.requires.1 _ c.in_err-room.ensures)

pub conn_at-conn-requires : goal.conn_at-conn-requires
conn_at-conn-requires c =
    line_at c.requires.0.sound c.requires.1.here

pub push_out-n-requires : goal.push_out-n-requires
push_out-n-requires c =
    new-room c.args.key c.args.message c.args.t c.requires.0 c.requires.1 (sym c.in_ok-room.ensures)

pub set_line-requires : goal.set_line-requires
set_line-requires c =
    new-at c.args.key c.args.message c.args.t c.requires.0 c.requires.1 (sym c.in_ok-room.ensures)
    c.conn_at-conn.result c.conn_at-conn.ensures c.push_out-n.ensures

pub align_pending-requires : goal.align_pending-requires
align_pending-requires c =
    new-ready c.args.key c.args.message c.args.t c.requires.0 c.requires.1 (sym c.in_ok-room.ensures)
    c.conn_at-conn.result c.conn_at-conn.ensures c.push_out-n.ensures c.set_line.ensures c.push_out-n.auto.out

pub returns : goal.returns
returns c =
    new-done c.args.key c.args.message c.args.t c.requires.0 c.requires.1 (sym c.in_ok-room.ensures)
    c.conn_at-conn.result c.conn_at-conn.ensures c.push_out-n.ensures c.set_line.ensures
    (c.align_pending.auto.s ∙ c.set_line.auto.s ∙ c.push_out-n.auto.s) c.align_pending.ensures
