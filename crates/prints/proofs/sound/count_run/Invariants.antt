use Rattle.prints.proofs.Keyed.{Tests}
use Rattle.prints.proofs.sound.count_run.Given as goal

abbrev pub invariant-loop-j : goal.invariant-loop-j
invariant-loop-j l = Tests l.b l.n l.keys l.area l.passed l.j
