use native.Mathlib.Omega.{arith}
use Rattle.store.proofs.ConnLaws.{fits-sound}
use Rattle.market_prints.proofs.PrintingLaws.{counted-duplicate, counted-put, counted-held}
use Rattle.market_prints.proofs.counted.Goals as goal

pub returns-then-delivered-applied : goal.returns-then-delivered-applied
returns-then-delivered-applied c =
    counted-duplicate c.args.i c.args.conn c.args.key c.args.message c.args.delivered c.args.applied c.requires.roomy.0.sound c.requires.roomy.1.1.0 (omega (arith, c.if-delivered-applied.true))

pub line_at-requires : goal.line_at-requires
line_at-requires c = (fits-sound c.args.s.now c.requires.roomy.0.sound c.args.i c.requires.roomy.1.0).at

pub returns-then-in_line : goal.returns-then-in_line
returns-then-in_line c =
    counted-put c.args.i c.args.conn c.args.key c.args.message c.args.delivered c.args.applied c.requires.roomy.1.0 c.line_at.ensures c.in_line.ensures (omega (arith, c.if-delivered-applied.false)) c.if-in_line.true c.put_print.ensures

pub returns : goal.returns
returns c =
    counted-held c.args.i c.args.conn c.args.key c.args.message c.args.delivered c.args.applied c.requires.roomy.1.0 c.line_at.ensures c.in_line.ensures (omega (arith, c.if-delivered-applied.false)) c.requires.roomy.1.1.0 c.if-in_line.false (c.hold.ensures c.args.out.now)
