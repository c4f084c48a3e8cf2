use mathlib.Core.Path.{◌∙◌}
use native.Mathlib.Omega.{arith}
use Rattle.member_order.proofs.NameSteps.{first_ended, second_ended, first_differs}
use Rattle.member_order.proofs.compare.order_of.Goals as goal

pub returns-then-x : goal.returns-then-x
returns-then-x c s u = first_ended _ _ s u (omega arith) (omega arith)

pub returns-then-y : goal.returns-then-y
returns-then-y c s u = second_ended _ _ s u (omega arith) (omega arith)

pub returns : goal.returns
returns c s u = c.cmp.ensures ∙ first_differs _ _ s u c.if-x.false c.if-y.false c.requires
