use Rattle.member_order.specs.Codes.{PlaceOf, Made}
use Rattle.member_order.proofs.codes.store.Given as goal

abbrev pub invariant-loop-i : goal.invariant-loop-i
invariant-loop-i l = Made PlaceOf l.initial.words l.low l.i l.words
