use mathlib.Core.Path.{refl, sym, ◌∙◌}
use Prim.Native.Nat.{◌-◌}
use native.Mathlib.Omega.{arith}
use Rattle.rules.specs.Lines.{is_due}
use Rattle.store.proofs.ConnLaws.{some-here, some-over, some_end}
use Rattle.store.proofs.conns.some_due.Goals as goal

pub loop-i-init : goal.loop-i-init
loop-i-init c = refl

pub returns-then-due : goal.returns-then-due
returns-then-due c =
    let l = c.loop-i in
    some-here _ l.i (omega arith) _ c.line_at.ensures is_due _ c.due.ensures c.if-due.true ∙ sym l.invariant

pub loop-i-preserved : goal.loop-i-preserved
loop-i-preserved c =
    let l = c.loop-i in
    (l.invariant ∙ some-over _ l.i (omega arith) _ c.line_at.ensures is_due _ c.due.ensures c.if-due.false)

pub returns : goal.returns
returns c =
    let l = c.loop-i in some_end _ l.i is_due (omega arith) ∙ sym l.invariant
