use mathlib.Core.Path.{sym, ◌∙◌, refl}
use native.Mathlib.Omega.{arith}
use Rattle.lines.proofs.AreaLaws.{among-here, among-over, among-end}
use Rattle.lines.proofs.area.among.Goals as goal

pub loop-i-init : goal.loop-i-init
loop-i-init c = refl

pub returns-then-has_key : goal.returns-then-has_key
returns-then-has_key c = let l = c.loop-i in let a = c.args in among-here a.key a.n a.prints.now l.i (omega arith) (sym c.has_key.ensures ∙ c.if-has_key.true) ∙ sym l.invariant

pub loop-i-preserved : goal.loop-i-preserved
loop-i-preserved c = let l = c.loop-i in let a = c.args in l.invariant ∙ among-over a.key a.n a.prints.now l.i (omega arith) (sym c.has_key.ensures ∙ c.if-has_key.false)

pub returns : goal.returns
returns c = let a = c.args in among-end a.key a.n a.prints.now c.loop-i.i c.loop-i-test.false ∙ sym c.loop-i.invariant
