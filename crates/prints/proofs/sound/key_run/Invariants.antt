use Rattle.rows.proofs.Ordered.{Upto}
use Rattle.prints.specs.Steps.{KeySound}
use Rattle.prints.proofs.sound.key_run.Given as goal

abbrev pub invariant-loop-i : goal.invariant-loop-i
invariant-loop-i l = Upto l.n (KeySound l.b l.area) l.i
