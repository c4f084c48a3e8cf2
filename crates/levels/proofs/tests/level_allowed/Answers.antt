use mathlib.Core.Path.{sym, ◌∙◌}
use lib.Ieee.{of_bits, ne}
use Rattle.levels.proofs.tests.level_allowed.Goals as goal
use Rattle.levels.proofs.tests.level_allowed.Goals.{then-price_allowed, else-price_allowed}

pub returns-then-size_allowed : goal.returns-then-size_allowed
unfolding of_bits ne
returns-then-size_allowed c =
    elim c.if-price_allowed.branch [
      | then-price_allowed w ↦ rw (sym c.price_allowed.ensures ∙ w.if-price_allowed.true, sym w.size_allowed.ensures ∙ sym w.value-is ∙ c.if-size_allowed.true)
      | else-price_allowed w ↦ cc
    ]
