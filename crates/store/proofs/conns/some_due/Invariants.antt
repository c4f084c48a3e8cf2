use mathlib.Core.Path.{◌≡◌}
use Prim.Native.Nat.{◌-◌, ◌≤◌}
use lib.ListN.{drop}
use Rattle.rules.specs.Lines.{some_due}
use Rattle.store.specs.Store.{market_of}
use Rattle.store.proofs.conns.some_due.Given as goal

abbrev pub invariant-loop-i : goal.invariant-loop-i
invariant-loop-i l = some_due (market_of l.s).lines ≡ some_due (drop l.i (market_of l.s).lines)
