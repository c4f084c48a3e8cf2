use mathlib.Core.Path.{◌≡◌}
use lib.ListN.{drop}
use Rattle.rules.specs.Quantities.{same}
use Rattle.rules.specs.Lists.{any}
use Rattle.lines.specs.Area.{prints_in}
use Rattle.lines.proofs.area.among.Given as goal

abbrev pub invariant-loop-i : goal.invariant-loop-i
invariant-loop-i l = any (λ p. same p.0 l.key) (prints_in l.n l.prints) ≡ any (λ p. same p.0 l.key) (drop l.i (prints_in l.n l.prints))
