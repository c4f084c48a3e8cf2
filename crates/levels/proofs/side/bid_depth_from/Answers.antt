use mathlib.Core.Path.{sym, ◌∙◌}
use mathlib.Core.Bool.{true}
use Rattle.levels.proofs.Reversed.{side-count, side-falling, bids-reverse}
use Rattle.levels.proofs.side.bid_depth_from.Goals as goal

pub place-at-requires : goal.place-at-requires
place-at-requires c = let a = c.args in (
  side-count true a.prices.now a.sizes.now a.count c.requires,
  side-falling true a.prices.now a.sizes.now a.count c.requires,
)

pub sum_up-requires : goal.sum_up-requires
sum_up-requires c =
    let a = c.args in (c.place-at.ensures.within, side-count true a.prices.now a.sizes.now a.count c.requires)

pub returns : goal.returns
returns c =
    c.sum_up.ensures ∙ sym (bids-reverse _ c.args.sizes.now _ _ _ c.place-at.ensures)
