use mathlib.Core.Path.{◌≡◌}
use lib.ListN.{length, take}
use Rattle.rules.specs.Lines.{conn_at}
use Rattle.rules.specs.Entering.{release}
use Rattle.store.specs.Store.{market_of}
use Rattle.moves.specs.Does.{Does}
use Rattle.moves.proofs.entering.release_prints.Given as goal

abbrev pub invariant-loop-j : goal.invariant-loop-j
invariant-loop-j l = (length l.s ≡ length l.initial.s)
    × ((length l.out ≡ length l.initial.out) × Does (release (conn_at l.i (market_of l.initial.s)).conn (take l.j (conn_at l.i (market_of l.initial.s)).held)) l.initial.s l.initial.out l.n l.s l.out l.m)
