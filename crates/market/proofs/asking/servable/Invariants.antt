use mathlib.Core.Path.{◌≡◌}
use lib.ListN.{drop}
use Rattle.rules.specs.Lists.{any}
use Rattle.rules.specs.Lines.{Connection}
use Rattle.rules.specs.Refusals.{can_serve, servable}
use Rattle.store.specs.Store.{market_of}
use Rattle.market.proofs.asking.servable.Given as goal

abbrev pub invariant-loop-i : goal.invariant-loop-i
invariant-loop-i l = servable (market_of l.s) ≡ any (λ (x : Connection). can_serve x.line) (drop l.i (market_of l.s).lines)
