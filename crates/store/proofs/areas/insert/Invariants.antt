use Rattle.store.proofs.AreaSteps.{Opening}
use Rattle.store.proofs.areas.insert.Given as goal

abbrev pub invariant-loop-j : goal.invariant-loop-j
invariant-loop-j l = Opening l.initial.s l.s l.i l._j l.a
