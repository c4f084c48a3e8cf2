use mathlib.Core.Path.{◌≡◌}
use lib.ListN.{drop}
use Rattle.rules.specs.Calls.{source}
use Rattle.store.specs.Store.{market_of}
use Rattle.market.specs.Claims.{source_of}
use Rattle.market.proofs.promoting.source.Given as goal

abbrev pub invariant-loop-i : goal.invariant-loop-i
invariant-loop-i l = source_of l.best ≡ source l.i (drop l.i (market_of l.s).lines)
