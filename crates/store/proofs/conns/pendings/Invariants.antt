use mathlib.Core.Path.{◌≡◌}
use Prim.Native.Nat.{◌+◌, ◌-◌, ◌≤◌}
use lib.ListN.{drop}
use Rattle.rules.specs.Entering.{pendings}
use Rattle.store.specs.Store.{market_of}
use Rattle.store.proofs.conns.pendings.Given as goal

abbrev pub invariant-loop-i : goal.invariant-loop-i
invariant-loop-i l = l.pending + pendings (drop l.i (market_of l.s).lines) ≡ pendings (market_of l.s).lines
