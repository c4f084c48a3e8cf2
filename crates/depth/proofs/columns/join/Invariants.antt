use mathlib.Core.Path.{◌≡◌}
use lib.ListN.{length}
use Rattle.depth.specs.Value.{Split}
use Rattle.depth.proofs.columns.join.Given as goal

abbrev pub invariant-loop-i : goal.invariant-loop-i
invariant-loop-i l = (length l.levels ≡ 512) × Split l.levels l.count l.columns.prices l.columns.sizes l.i
