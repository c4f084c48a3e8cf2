use Rattle.store.specs.Store.{layout}
use Rattle.store.proofs.MarketLaws.{market-empty, length-empty, layout-empty, front-empty}
use Rattle.store.proofs.put_header.Goals as goal

pub shape_of-s : goal.shape_of-s
shape_of-s c =
    length-empty c.args.l c.args.start c.args.s.now _ _ layout c.copy_from_slice.ensures.after c.copy_from_slice-2.ensures.after c.requires

pub returns : goal.returns
returns c = (
  market-empty c.args.l c.args.start c.args.s.now _ _ layout c.copy_from_slice.ensures.after c.copy_from_slice-2.ensures.after,
  (
    layout-empty c.args.l c.args.start c.args.s.now _ _ layout c.copy_from_slice.ensures.after c.copy_from_slice-2.ensures.after,
    front-empty c.args.l c.args.start c.args.s.now _ _ layout c.copy_from_slice.ensures.after c.copy_from_slice-2.ensures.after,
  ),
)
