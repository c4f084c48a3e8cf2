use mathlib.Core.Path.{sym, ◌∙◌}
use native.Mathlib.Omega.{arith}
use Rattle.rules.specs.Refusals.{can_serve}
use Rattle.store.proofs.ConnLaws.{lined-sound, some-here, some-over, some_end}
use Rattle.market.proofs.asking.servable.Goals as goal

pub line_at-requires : goal.line_at-requires
line_at-requires c = record { lined = lined-sound _ c.requires; here = omega arith }

pub returns-then-servable : goal.returns-then-servable
returns-then-servable c =
    let l = c.loop-i in
    some-here _ l.i (omega arith) _ c.line_at.ensures can_serve _ c.servable.ensures c.if-servable.true ∙ sym l.invariant

pub loop-i-preserved : goal.loop-i-preserved
loop-i-preserved c =
    let l = c.loop-i in
    l.invariant ∙ some-over _ l.i (omega arith) _ c.line_at.ensures can_serve _ c.servable.ensures c.if-servable.false

pub returns : goal.returns
returns c =
    let l = c.loop-i in some_end _ l.i can_serve (omega arith) ∙ sym l.invariant
