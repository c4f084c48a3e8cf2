use mathlib.Core.Path.{refl, sym, ◌∙◌}
use Prim.Native.Nat.{◌-◌}
use native.Mathlib.Omega.{arith}
use Rattle.rules.specs.Lines.{is_in_line}
use Rattle.store.proofs.ConnLaws.{some-here, some-over, some_end}
use Rattle.store.proofs.conns.any_in_line.Goals as goal

pub loop-i-init : goal.loop-i-init
loop-i-init c = refl

pub returns-then-in_line : goal.returns-then-in_line
returns-then-in_line c =
    let l = c.loop-i in
    some-here _ l.i (omega arith) _ c.line_at.ensures is_in_line _ c.in_line.ensures c.if-in_line.true ∙ sym l.invariant

pub loop-i-preserved : goal.loop-i-preserved
loop-i-preserved c =
    let l = c.loop-i in
    (l.invariant ∙ some-over _ l.i (omega arith) _ c.line_at.ensures is_in_line _ c.in_line.ensures c.if-in_line.false)

pub returns : goal.returns
returns c =
    let l = c.loop-i in some_end _ l.i is_in_line (omega arith) ∙ sym l.invariant
