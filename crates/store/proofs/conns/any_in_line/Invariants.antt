use mathlib.Core.Path.{◌≡◌}
use Prim.Native.Nat.{◌-◌, ◌≤◌}
use lib.ListN.{drop}
use Rattle.rules.specs.Lines.{someone}
use Rattle.store.specs.Store.{market_of}
use Rattle.store.proofs.conns.any_in_line.Given as goal

abbrev pub invariant-loop-i : goal.invariant-loop-i
invariant-loop-i l = someone (market_of l.s).lines ≡ someone (drop l.i (market_of l.s).lines)
