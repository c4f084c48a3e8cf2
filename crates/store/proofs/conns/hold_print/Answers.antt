use mathlib.Core.List.{[], ◌∷◌, ◌++◌}
use Rattle.store.proofs.ConnLaws.{hold-print-ready, prints-done}
use Rattle.store.proofs.conns.hold_print.Goals as goal

pub hold_print-requires : goal.hold_print-requires
hold_print-requires c =
    hold-print-ready _ _ _ _ c.line_start-a.ensures.start c.line_end-e.ensures.end c.requires

pub returns : goal.returns
returns c =
    let f = c.hold_print in
    prints-done _ _ _ _ c.line_start-a.ensures.start c.line_end-e.ensures.end c.requires.fits.at
    (λ ps. ps ++ ((c.args.key, c.args.message) ∷ [])) c.requires.unfailed _ f.auto.area f.ensures
