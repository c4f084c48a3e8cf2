use mathlib.Core.Path.{ap, sym, ◌∙◌}
use native.Mathlib.Omega.{arith}
use Rattle.std.proofs.Common.{rules}
use lib.Ieee.{Float, of_bits, add, binary64}
use denote.Bor.{Bor}
use Rattle.levels.specs.Depth.{total, plus_zero}
use Rattle.levels.proofs.Totals.{folded, sizes-cut}
use Rattle.levels.proofs.sums.sum_up.Goals as goal

pub returns : goal.returns
unfolding of_bits
returns c =
    let (p, from, whole, result) = c.fold.ensures.runs in
    let a = c.args in
    result (λ x y. add binary64 x y.now) (search rules)
    ∙ folded (λ (y : Bor Float). y.now) plus_zero p.items
    ∙ ap (total plus_zero)
    ((c.iter.ensures.runs p p.seen).4 whole ∙ ap (λ s. s.rest.now) from ∙ c.iter.ensures.rest ∙ sym (sizes-cut a.sizes.now a.from a.to c.requires.0 (omega arith)))
