use Rattle.std.proofs.Common.{ap, ◌∙◌}
use Rattle.keys.specs.Sip.{finalized}
use Rattle.keys.proofs.sip.State.finish.Goals as goal

pub returns : goal.returns
returns c = c.finalize.ensures ∙ ap finalized c.compress.ensures
