use Rattle.std.proofs.lemmas.Result.{err_from_is_err_and}
use mathlib.Core.Path.{sym}
use Rattle.market_events.proofs.EventLaws.{held-full, held-room, pending-asks, held-tries, held-waits}
use Rattle.market_events.proofs.held_event.Goals as goal

pub returns-in_err-room : goal.returns-in_err-room
returns-in_err-room c =
    let p = err_from_is_err_and c.from_residual.result c.from_residual.ensures.1 in
    rw (p.1, p.2) (held-full c.args.key c.args.message c.args.t c.requires.0 c.requires.1 _ c.in_err-room.ensures)

pub hold_item-requires : goal.hold_item-requires
hold_item-requires c =
    held-room c.args.key c.args.message c.args.t c.requires.0 c.requires.1

pub pending_event-requires : goal.pending_event-requires
pending_event-requires c =
    pending-asks c.args.key c.args.message c.args.t c.requires.0 c.requires.1 (sym c.in_ok-room.ensures) c.hold_item.ensures

pub returns-then-pending : goal.returns-then-pending
returns-then-pending c =
    held-tries c.args.key c.args.message c.args.t c.requires.0 c.requires.1 (sym c.in_ok-room.ensures)
    c.hold_item.ensures c.pending.ensures c.if-pending.true c.hold_item.auto.s c.pending_event.ensures

pub returns : goal.returns
returns c =
    held-waits c.args.key c.args.message c.args.t c.requires.0 c.requires.1 (sym c.in_ok-room.ensures)
    c.hold_item.ensures c.pending.ensures c.if-pending.false c.hold_item.auto.s
