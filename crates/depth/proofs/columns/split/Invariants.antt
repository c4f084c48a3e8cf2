use mathlib.Core.Path.{◌≡◌}
use lib.ListN.{length}
use Rattle.depth.specs.Value.{Split}
use Rattle.depth.proofs.columns.split.Given as goal

abbrev pub invariant-loop-i : goal.invariant-loop-i
invariant-loop-i l = (length l.prices ≡ 512) × (length l.sizes ≡ 512) × Split l.side.levels l.count l.prices l.sizes l.i
