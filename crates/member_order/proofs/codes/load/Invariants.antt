use Rattle.member_order.specs.Codes.{WordOf, Made}
use Rattle.member_order.specs.Names.{name_in}
use Rattle.member_order.proofs.codes.load.Given as goal

abbrev pub invariant-loop-i : goal.invariant-loop-i
invariant-loop-i l = Made (WordOf (name_in l.names)) l.initial.places l.low l.i l.places
