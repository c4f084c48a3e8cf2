use Rattle.levels.proofs.tests.better.Goals as goal

pub returns-then-bid : goal.returns-then-bid
returns-then-bid c = rw c.if-bid.true

pub returns-else-bid : goal.returns-else-bid
returns-else-bid c = rw c.if-bid.false
