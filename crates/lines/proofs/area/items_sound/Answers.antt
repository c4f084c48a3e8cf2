use native.Mathlib.Omega.{arith}
use Rattle.lines.proofs.SoundLaws.{all_known, known-kind}
use Rattle.lines.proofs.area.items_sound.Goals as goal

pub returns-then-items-i-gt2 : goal.returns-then-items-i-gt2
returns-then-items-i-gt2 c = λ p. let q = known-kind _ _ p.1 c.loop-i.i (omega arith) in omega arith

pub returns : goal.returns
returns c = (c.if-h-n.false, all_known _ _ (λ k l. c.loop-i.invariant k (omega arith)))
