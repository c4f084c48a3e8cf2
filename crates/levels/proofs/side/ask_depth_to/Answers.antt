use mathlib.Core.Path.{sym, ◌∙◌}
use mathlib.Core.Bool.{false}
use Rattle.levels.proofs.Reversed.{side-count, side-falling, asks-reverse}
use Rattle.levels.proofs.side.ask_depth_to.Goals as goal

pub place-at-requires : goal.place-at-requires
place-at-requires c = let a = c.args in (
  side-count false a.prices.now a.sizes.now a.count c.requires,
  side-falling false a.prices.now a.sizes.now a.count c.requires,
)

pub sum_down-requires : goal.sum_down-requires
sum_down-requires c =
    let a = c.args in (c.place-at.ensures.within, side-count false a.prices.now a.sizes.now a.count c.requires)

pub returns : goal.returns
returns c =
    c.sum_down.ensures ∙ sym (asks-reverse _ c.args.sizes.now _ _ _ c.place-at.ensures)
