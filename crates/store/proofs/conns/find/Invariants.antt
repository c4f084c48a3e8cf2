use mathlib.Core.Path.{◌≡◌}
use Prim.Native.Nat.{◌+◌, ◌-◌, ◌≤◌}
use lib.ListN.{drop}
use Rattle.rules.specs.Lists.{index}
use Rattle.store.specs.Store.{market_of}
use Rattle.store.proofs.ConnLaws.{of_conn}
use Rattle.store.proofs.conns.find.Given as goal

abbrev pub invariant-loop-i : goal.invariant-loop-i
invariant-loop-i l = index (of_conn l.conn) (market_of l.s).lines ≡ l.i + index (of_conn l.conn) (drop l.i (market_of l.s).lines)
