use Rattle.keys.specs.Sip.{sip_round, added}
use Rattle.keys.proofs.sip.State.round.Goals as goal

pub returns : goal.returns
unfolding sip_round added
returns c = cc
