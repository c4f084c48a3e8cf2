use lib.ListN.{length}
use Rattle.rules.specs.Lines.{items_of}
use Rattle.store.proofs.ConnLaws.{line-told}
use Rattle.store.proofs.conns.held.Goals as goal

pub returns : goal.returns
returns c =
    line-told _ _ c.requires.here (λ l. length (items_of l)) (λ v. c.held.result) _ c.held.ensures c.line_at.ensures
