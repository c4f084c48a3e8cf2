use Rattle.rows.specs.Rows.{row_in, LooksFrom}
use Rattle.rows.proofs.first_below.Given as goal

abbrev pub invariant-loop-len : goal.invariant-loop-len
invariant-loop-len l = LooksFrom (row_in l.b l.t) l.n l.x l.lo l.len

abbrev pub decreases-loop-len : goal.decreases-loop-len
decreases-loop-len l = l.len
