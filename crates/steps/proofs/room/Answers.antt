use mathlib.Core.Path.{refl, sym, ◌∙◌}
use borrow.Author.Tests.{lt-ltb, le-ltb}
use Rattle.steps.proofs.StepLaws.{short-said}
use Rattle.steps.proofs.room.Goals as goal

pub returns-then-len-limits : goal.returns-then-len-limits
returns-then-len-limits c = let l = c.limits-limits in (refl, sym (short-said _ _ l.result l.ensures) ∙ lt-ltb _ _ c.if-len-limits.true)

pub returns : goal.returns
returns c = let l = c.limits-limits in sym (short-said _ _ l.result l.ensures) ∙ le-ltb _ _ c.if-len-limits.false
