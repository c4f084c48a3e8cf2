use Rattle.store.proofs.ConnLaws.{hold-item-ready, hold-item-done}
use Rattle.store.proofs.conns.hold_item.Goals as goal

pub hold_item-requires : goal.hold_item-requires
hold_item-requires c =
    hold-item-ready _ _ _ _ c.line_start-a.ensures.start c.line_end-e.ensures.end _ c.requires

pub returns : goal.returns
returns c =
    let f = c.hold_item in
    hold-item-done _ _ _ _ c.line_start-a.ensures.start c.line_end-e.ensures.end c.requires.fits.at _ c.requires.unfailed _ f.auto.area f.ensures
