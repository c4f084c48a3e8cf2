use Rattle.rows.proofs.Ordered.{Walked}
use Rattle.rows.proofs.tables.apart.Given as goal

abbrev pub invariant-loop-i : goal.invariant-loop-i
invariant-loop-i l = Walked l.three l.b l.u l.t l.k l.i
