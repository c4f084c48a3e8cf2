use Prim.Native.Nat.{◌-◌}
use Rattle.store.proofs.AreaSteps.{Closing}
use Rattle.store.proofs.areas.take_out.Given as goal

abbrev pub invariant-loop-j : goal.invariant-loop-j
invariant-loop-j l = Closing l.initial.s l.s l.i l._j l.a
