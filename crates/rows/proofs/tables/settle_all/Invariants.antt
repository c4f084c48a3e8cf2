use Rattle.rows.proofs.Settling.{Settling}
use Rattle.rows.proofs.tables.settle_all.Given as goal

abbrev pub invariant-loop-j : goal.invariant-loop-j
invariant-loop-j l = Settling l.three l.b l.initial.i l.initial.j l.initial.t l.t l.i l.j
