use Rattle.rules.specs.Refusals.{step}
use Rattle.steps.proofs.subscribe.Goals as goal

pub returns : goal.returns
unfolding step
returns c = c.subscribe.ensures
