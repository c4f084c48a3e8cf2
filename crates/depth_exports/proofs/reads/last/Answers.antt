use mathlib.Core.Path.{refl, sym, ap}
use Rattle.rules.specs.Answers.{value}
use Rattle.depth_exports.proofs.Laws.{best-some, best_none, not-refused}
use Rattle.depth_exports.proofs.reads.last.Goals as goal

pub returns-then-count-gt0 : goal.returns-then-count-gt0
returns-then-count-gt0 c =
    let a = c.args in
    (ap value (sym (best-some a.prices.now a.sizes.now a.count c.if-count-gt0.true)), not-refused refl, not-refused refl)

pub returns-else-count-gt0 : goal.returns-else-count-gt0
returns-else-count-gt0 c =
    let a = c.args in
    (ap value (sym (best_none a.prices.now a.sizes.now a.count c.if-count-gt0.false)), λ z. refl, λ z. refl)
