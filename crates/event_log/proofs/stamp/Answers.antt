use mathlib.Core.Path.{refl}
use Rattle.event_log.specs.Log.{log_of}
use Rattle.event_log.proofs.stamp.Goals as goal

pub returns-clause-by_index : goal.returns-clause-by_index
unfolding log_of
returns-clause-by_index c g w = refl
