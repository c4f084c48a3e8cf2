use native.Mathlib.Omega.{arith}
use Rattle.moves.proofs.PushLaws.{push-start, push-fits, push-held, push-on, push-done}
use Rattle.moves.proofs.lining_up.push_events.Goals as goal

pub loop-j-init : goal.loop-j-init
loop-j-init c =
    push-start c.requires c.conn_at-conn.result c.args.t c.args.skip

pub item_at-item-requires : goal.item_at-item-requires
item_at-item-requires c =
    let h = c.held-j-end.ensures in
    let e = push-held c.requires c.conn_at-conn.result c.args.t c.args.skip c.loop-j.invariant in
    (push-fits c.requires c.conn_at-conn.result c.args.t c.args.skip c.loop-j.invariant, omega arith)

pub loop-j-preserved : goal.loop-j-preserved
loop-j-preserved c =
    let h = c.held-j-end.ensures in
    push-on c.requires c.conn_at-conn.result c.args.t c.args.skip c.loop-j.invariant (omega arith) c.item_at-item.ensures c.push_past-past.auto.s c.push_past-past.auto.out
    c.push_past-past.ensures.does c.push_past-past.ensures.skip_value

pub returns : goal.returns
returns c =
    let h = c.held-j-end.ensures in
    push-done c.requires c.conn_at-conn.result c.args.t c.args.skip c.loop-j.invariant (omega arith) _ c.conn_at-conn.ensures
