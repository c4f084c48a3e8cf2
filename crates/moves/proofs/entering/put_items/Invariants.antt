use mathlib.Core.Path.{◌≡◌}
use lib.ListN.{length, take}
use Rattle.rules.specs.Lines.{conn_at, items_of}
use Rattle.rules.specs.Entering.{put_items}
use Rattle.store.specs.Store.{market_of}
use Rattle.moves.specs.Does.{Does}
use Rattle.moves.proofs.entering.put_items.Given as goal

abbrev pub invariant-loop-j : goal.invariant-loop-j
invariant-loop-j l = (length l.s ≡ length l.initial.s)
    × ((length l.out ≡ length l.initial.out) × Does (put_items (conn_at l.i (market_of l.initial.s)).conn l.t (take l.j (items_of (conn_at l.i (market_of l.initial.s)).line))) l.initial.s l.initial.out l.n l.s l.out l.m)
