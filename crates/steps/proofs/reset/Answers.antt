use Rattle.rules.specs.Refusals.{step}
use Rattle.steps.proofs.reset.Goals as goal

pub returns : goal.returns
unfolding step
returns c = c.reset.ensures
