use native.Mathlib.Omega.{arith}
use borrow.Author.Count.{below_more}
use Rattle.words.proofs.Cases.{says-yes, says-no}
use Rattle.store.proofs.MarketLaws.{log-ends}
use Rattle.sound.proofs.LineLaws.{each-sound, sound-each}
use Rattle.sound.proofs.lines_sound.Goals as goal

pub returns-then-not-line_sound : goal.returns-then-not-line_sound
returns-then-not-line_sound c =
    let w = c.args.s.now in
    λ h. says-no _ c.line_sound.ensures (c.if-not-line_sound.true) (sound-each w _ (omega (arith, log-ends w)) h c.loop-i.i (omega arith))

pub loop-i-preserved : goal.loop-i-preserved
loop-i-preserved c = below_more _ _ c.loop-i.invariant (says-yes _ c.line_sound.ensures (c.if-not-line_sound.false))

pub returns : goal.returns
returns c =
    let w = c.args.s.now in
    each-sound w _ (omega (arith, log-ends w)) (λ i l. c.loop-i.invariant i (omega arith))
