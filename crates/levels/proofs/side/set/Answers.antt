use Rattle.levels.proofs.Reversed.{lies, side_set}
use Rattle.levels.proofs.side.set.Goals as goal

pub set-requires : goal.set-requires
set-requires c = lies c.args.bid c.args.prices.now c.args.sizes.now c.args.count c.requires

pub returns : goal.returns
returns c = let e = c.set.ensures in (side_set c.set.result _ _ c.args.bid _ _ _ e.0, e.1)
