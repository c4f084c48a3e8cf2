use Rattle.store.proofs.ConnLaws.{line-part}
use Rattle.store.proofs.conns.line_words.Goals as goal

pub returns : goal.returns
returns c = line-part _ _ _ _ c.line_start-a.ensures.start c.line_end-e.ensures.end
