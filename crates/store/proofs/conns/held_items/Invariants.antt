use mathlib.Core.Path.{◌≡◌}
use Prim.Native.Nat.{◌+◌, ◌-◌, ◌≤◌}
use lib.ListN.{drop}
use Rattle.rules.specs.Lines.{item_count}
use Rattle.store.specs.Store.{market_of}
use Rattle.store.proofs.conns.held_items.Given as goal

abbrev pub invariant-loop-i : goal.invariant-loop-i
invariant-loop-i l = l.held + item_count (drop l.i (market_of l.s).lines) ≡ item_count (market_of l.s).lines
