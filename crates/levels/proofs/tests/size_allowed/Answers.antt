use lib.Ieee.{of_bits, div}
use Rattle.levels.proofs.tests.size_allowed.Goals as goal

pub returns-then-size : goal.returns-then-size
unfolding of_bits div
returns-then-size c = rw c.if-size.true
