use native.Mathlib.Omega.{arith}
use Rattle.place.proofs.Next.{next, event-held}
use Rattle.place.proofs.holds_event.Goals as goal

pub returns : goal.returns
returns c = event-held _ _ _ (next _ _ 0 _ (omega arith) c.next_event.ensures)
