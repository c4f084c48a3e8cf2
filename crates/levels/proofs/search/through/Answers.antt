use Rattle.levels.proofs.Halving.{through-more, through_here}
use Rattle.levels.proofs.search.through.Goals as goal

pub returns-then-standing : goal.returns-then-standing
returns-then-standing c =
    through-more _ _ _ _ c.requires.1 _ c.place-at.ensures _ c.standing.ensures c.if-standing.true

pub returns-else-standing : goal.returns-else-standing
returns-else-standing c =
    through_here _ _ _ _ c.requires.1 _ c.place-at.ensures _ c.standing.ensures c.if-standing.false
