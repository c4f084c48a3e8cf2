use Rattle.store.proofs.ConnLaws.{set-line-done}
use Rattle.store.proofs.conns.set_line.Goals as goal

pub returns : goal.returns
returns c =
    set-line-done _ _ _ _ c.line_start-a.ensures.start c.line_end-e.ensures.end c.requires _ _ c.set_line.ensures
