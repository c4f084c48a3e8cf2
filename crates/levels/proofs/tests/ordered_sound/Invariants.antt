use mathlib.Core.Path.{◌≡◌}
use lib.ListN.{drop}
use Rattle.levels.specs.Depth.{in_order}
use Rattle.levels.specs.Work.{levels_of}
use Rattle.levels.proofs.tests.ordered_sound.Given as goal

-- the side is in order where what is left of it is
abbrev pub invariant-loop-i : goal.invariant-loop-i
invariant-loop-i l = in_order l.falling (levels_of l.prices l.sizes l.count) ≡ in_order l.falling (drop l.i (levels_of l.prices l.sizes l.count))
