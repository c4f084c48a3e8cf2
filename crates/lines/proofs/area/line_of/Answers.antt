use mathlib.Core.Path.{ap, ◌∙◌, sym}
use native.Mathlib.Omega.{arith}
use Rattle.lines.proofs.AreaLaws.{says-waiting, says-pending, says-in-line, says-failed}
use Rattle.lines.proofs.area.line_of.Goals as goal

pub returns-in-0 : goal.returns-in-0
returns-in-0 c = says-waiting _ c.in-0.is

pub returns-in-1 : goal.returns-in-1
returns-in-1 c = says-pending _ c.in-1.is _ c.stamp.ensures

pub returns-in-2 : goal.returns-in-2
returns-in-2 c = says-in-line _ c.in-2.is

pub returns-in_default : goal.returns-in_default
returns-in_default c = let h = c.in_default in says-failed _ (λ e. omega arith) (λ e. omega arith) (λ e. omega arith)
