use mathlib.Core.Path.{sym, ◌∙◌, ap}
use Rattle.std.specs.declared.cmp.Ordering.{Ordering}
use Rattle.member_order.specs.Order.{pick_by}
use Rattle.member_order.proofs.sort.choose_named.Goals as goal

pub returns-in-Less : goal.returns-in-Less
returns-in-Less c =
    let a = c.args in
    ap (λ (o : Ordering). pick_by o a.x a.y a.i a.j) (sym c.in-Less.is ∙ c.order_behind.ensures)

pub returns-in-Equal : goal.returns-in-Equal
returns-in-Equal c =
    let a = c.args in
    ap (λ (o : Ordering). pick_by o a.x a.y a.i a.j) (sym c.in-Equal.is ∙ c.order_behind.ensures)

pub returns-in-Greater : goal.returns-in-Greater
returns-in-Greater c =
    let a = c.args in
    ap (λ (o : Ordering). pick_by o a.x a.y a.i a.j) (sym c.in-Greater.is ∙ c.order_behind.ensures)
