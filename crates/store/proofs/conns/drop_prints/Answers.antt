use mathlib.Core.List.{[]}
use Rattle.store.proofs.ConnLaws.{prints-done}
use Rattle.store.proofs.conns.drop_prints.Goals as goal

pub returns : goal.returns
returns c =
    let f = c.drop_prints in
    prints-done _ _ _ _ c.line_start-a.ensures.start c.line_end-e.ensures.end c.requires.0 (λ ps. []) c.requires.1 _ f.auto.area f.ensures
