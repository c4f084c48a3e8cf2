use lib.Ieee.{nan}
use Rattle.levels.proofs.Shifts.{closed-levels}
use Rattle.levels.proofs.ordered.remove.Goals as goal

pub returns : goal.returns
returns c =
    closed-levels _ _ _ _ _ _ c.requires.0 (c.close.ensures 0) (c.close-2.ensures nan)
