use Prim.Native.Nat.{ℕ, ◌+◌, ◌*◌, ◌<◌}
use lib.ListN.{get_or}
use Rattle.rules.specs.Quantities.{age, log_keep}
use Rattle.event_log.specs.Log.{entry_place}
use Rattle.event_log.proofs.count_old.Given as goal

abbrev pub invariant-loop-i : goal.invariant-loop-i
invariant-loop-i l = (j : ℕ) → j < l.i → log_keep < age l.t (get_or l.area (2 * l.g + entry_place l.g l.head.front j) 0)
