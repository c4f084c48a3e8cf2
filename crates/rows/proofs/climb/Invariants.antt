use Rattle.rows.specs.Rows.{row_in}
use Rattle.rows.proofs.Search.{Bracket}
use Rattle.rows.proofs.climb.Given as goal

abbrev pub invariant-loop-j : goal.invariant-loop-j
invariant-loop-j l = Bracket l.key.three (row_in l.b l.t) l.n l.key.x l.key.y l.key.z l.j l.n
