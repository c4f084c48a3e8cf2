use borrow.Author.Tests.{le-leb, lt-leb}
use Rattle.json_text.specs.Bytes.{within}
use Rattle.json_text.proofs.bytes.within.Goals as goal

pub returns-then-low-b : goal.returns-then-low-b
unfolding within
returns-then-low-b c = rw (le-leb c.args.low c.args.b c.if-low-b.true)

pub returns-else-low-b : goal.returns-else-low-b
unfolding within
returns-else-low-b c = rw (lt-leb c.args.low c.args.b c.if-low-b.false)
