use mathlib.Core.Path.{◌≡◌}
use lib.ListN.{length}
use Rattle.market_tick.proofs.TickLaws.{Under}
use Rattle.market_tick.proofs.turns.Given as goal

abbrev pub invariant-loop-i : goal.invariant-loop-i
invariant-loop-i l = Under l.due l.answers l.t l.initial.s l.initial.out l.initial.reports l.s l.out l.reports l.k l.i × (length l.s ≡ length l.initial.s)
