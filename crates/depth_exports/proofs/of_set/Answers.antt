use mathlib.Core.Path.{refl}
use Rattle.depth_exports.proofs.of_set.Goals as goal

pub returns-in-Ok : goal.returns-in-Ok
returns-in-Ok c = rw c.in-Ok.is (refl, refl)

pub returns-in-Err : goal.returns-in-Err
returns-in-Err c = rw c.in-Err.is (c.refused.ensures.code, c.refused.ensures.number)
