use Rattle.keys.specs.Sip.{compressed, sip_rounds}
use Rattle.keys.proofs.sip.State.compress.Goals as goal

pub returns : goal.returns
unfolding compressed sip_rounds
returns c = cc
