use native.Mathlib.Omega.{arith}
use Rattle.store.proofs.ConnLaws.{lined-sound, fits-sound}
use Rattle.market_prints.proofs.PrintingLaws.{nobody-ignored, failed-ignored, print-ready}
use Rattle.market_prints.proofs.other.Goals as goal
use Rattle.market_prints.proofs.other.Goals.{then-count-i-via-then-count-i, then-count-i-via-else-count-i+then-failed}

pub find-i-requires : goal.find-i-requires
find-i-requires c = lined-sound c.args.s.now c.requires.sound

pub line_at-requires : goal.line_at-requires
line_at-requires c =
    let n = c.count.ensures in
    (fits-sound c.args.s.now c.requires.sound c.find-i.result (omega (arith, c.if-count-i.false))).at

pub returns-then-count-i : goal.returns-then-count-i
returns-then-count-i c =
    let n = c.count.ensures in
    elim c.then-count-i.branch [
      | then-count-i-via-then-count-i w ↦
          nobody-ignored c.args.conn c.args.key c.args.message c.args.t c.requires.sound c.find-i.ensures (omega (arith, w.if-count-i.true))
      | then-count-i-via-else-count-i+then-failed w ↦
          failed-ignored c.args.conn c.args.key c.args.message c.args.t c.requires.sound c.find-i.ensures (omega (arith, w.if-count-i.false))
          w.line_at.ensures w.failed.ensures w.if-failed.true
    ]

pub deliver-requires : goal.deliver-requires
deliver-requires c =
    let n = c.count.ensures in
    print-ready c.args.conn c.args.key c.args.message c.args.t c.requires.sound c.find-i.ensures (omega (arith, c.if-count-i.false)) c.line_at.ensures c.failed.ensures c.requires c.if-failed.false
