use Rattle.std.proofs.lemmas.Result.{err_from_is_err_and}
use mathlib.Core.Path.{sym, ◌∙◌}
use Rattle.store.proofs.ConnLaws.{lined-sound}
use Rattle.market_snapshots.proofs.HeldLaws.{held-full, held-room, complete-asks, take-over-asks, held-led, held-over}
use Rattle.market_snapshots.proofs.held_snapshot.Goals as goal

pub returns-in_err-room : goal.returns-in_err-room
returns-in_err-room c =
    let p = err_from_is_err_and c.from_residual.result c.from_residual.ensures.1 in
    rw (p.1, p.2)
    (held-full c.args.token c.args.message c.args.t c.requires.roomy.0 c.requires.roomy.1 c.requires.token_bound.0 c.requires.token_bound.1 _
    c.in_err-room.ensures)

pub any_in_line-led-requires : goal.any_in_line-led-requires
any_in_line-led-requires c =
    lined-sound c.args.s.now c.requires.roomy.0.sound

pub hold_item-requires : goal.hold_item-requires
hold_item-requires c =
    held-room c.args.token c.args.message c.args.t c.requires.roomy.0 c.requires.roomy.1 c.requires.token_bound.0 c.requires.token_bound.1

pub complete_snapshot-requires : goal.complete_snapshot-requires
complete_snapshot-requires c =
    complete-asks c.args.token c.args.message c.args.t c.requires.roomy.0 c.requires.roomy.1 c.requires.token_bound.0 c.requires.token_bound.1
    (sym c.in_ok-room.ensures) c.hold_item.ensures

pub returns-then-led : goal.returns-then-led
returns-then-led c =
    held-led c.args.token c.args.message c.args.t c.requires.roomy.0 c.requires.roomy.1 c.requires.token_bound.0 c.requires.token_bound.1
    (sym c.in_ok-room.ensures) c.hold_item.ensures
    (sym c.any_in_line-led.ensures ∙ c.if-led.true) c.hold_item.auto.s c.complete_snapshot.ensures

pub take_over-requires : goal.take_over-requires
take_over-requires c =
    take-over-asks c.args.token c.args.message c.args.t c.requires.roomy.0 c.requires.roomy.1 c.requires.token_bound.0 c.requires.token_bound.1
    (sym c.in_ok-room.ensures) c.hold_item.ensures

pub returns : goal.returns
returns c =
    held-over c.args.token c.args.message c.args.t c.requires.roomy.0 c.requires.roomy.1 c.requires.token_bound.0 c.requires.token_bound.1
    (sym c.in_ok-room.ensures) c.hold_item.ensures
    (sym c.any_in_line-led.ensures ∙ c.if-led.false) (c.take_over.auto.s ∙ c.hold_item.auto.s) c.take_over.ensures
