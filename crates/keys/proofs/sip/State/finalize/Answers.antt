use Rattle.keys.specs.Sip.{finalized, sip_rounds}
use Rattle.keys.proofs.sip.State.finalize.Goals as goal

pub returns : goal.returns
unfolding finalized sip_rounds
returns c = cc
