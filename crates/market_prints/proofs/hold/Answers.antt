use mathlib.Core.Path.{sym, ◌∙◌}
use native.Mathlib.Omega.{arith}
use Rattle.store.proofs.ConnLaws.{fits-sound}
use Rattle.market_prints.proofs.PrintingLaws.{held-already, line-fails, hold-room, held_more, dropped-at}
use Rattle.market_prints.proofs.hold.Goals as goal

pub holds_print-requires : goal.holds_print-requires
holds_print-requires c = fits-sound c.args.s.now c.requires.0 c.args.i c.requires.1.0

pub returns-then-holds_print : goal.returns-then-holds_print
returns-then-holds_print c =
    held-already c.requires c.args.key c.args.message (sym c.holds_print.ensures ∙ c.if-holds_print.true)

pub limit_at-requires : goal.limit_at-requires
limit_at-requires c = (fits-sound c.args.s.now c.requires.0 c.args.i c.requires.1.0).at

pub prints_held-requires : goal.prints_held-requires
prints_held-requires c = (fits-sound c.args.s.now c.requires.0 c.args.i c.requires.1.0).at

pub drop_prints-requires : goal.drop_prints-requires
drop_prints-requires c = ((fits-sound c.args.s.now c.requires.0 c.args.i c.requires.1.0).at, c.requires.1.1)

pub set_line-requires : goal.set_line-requires
set_line-requires c =
    dropped-at c.requires.0 c.requires.1.0 c.drop_prints.ensures

pub returns-then-limit_at-prints_held : goal.returns-then-limit_at-prints_held
returns-then-limit_at-prints_held c =
    let h = c.limit_at.ensures in
    line-fails c.requires c.args.key c.args.message (sym c.holds_print.ensures ∙ c.if-holds_print.false) c.prints_held.ensures (omega (arith, c.if-limit_at-prints_held.true)) c.drop_prints.auto.s c.set_line.auto.s c.drop_prints.ensures c.set_line.ensures

pub hold_print-requires : goal.hold_print-requires
hold_print-requires c =
    let h = c.limit_at.ensures in
    hold-room c.requires c.args.key c.args.message (sym c.holds_print.ensures ∙ c.if-holds_print.false) c.prints_held.ensures (omega (arith, c.if-limit_at-prints_held.false))

pub returns : goal.returns
returns c =
    let h = c.limit_at.ensures in
    held_more c.requires c.args.key c.args.message (sym c.holds_print.ensures ∙ c.if-holds_print.false) c.prints_held.ensures (omega (arith, c.if-limit_at-prints_held.false)) c.hold_print.auto.s c.hold_print.ensures
