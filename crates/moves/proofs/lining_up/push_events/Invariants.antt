use Rattle.moves.proofs.PushLaws.{PushedTo}
use Rattle.moves.proofs.lining_up.push_events.Given as goal

abbrev pub invariant-loop-j : goal.invariant-loop-j
invariant-loop-j l = PushedTo l.conn l.t l.i l.skip l.initial.s l.initial.out l.n l.s l.out l.past.n l.past.skip l.j
