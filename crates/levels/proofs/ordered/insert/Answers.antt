use lib.Ieee.{nan}
use native.Mathlib.Omega.{arith}
use Rattle.levels.proofs.Shifts.{opened-levels}
use Rattle.levels.proofs.ordered.insert.Goals as goal

pub returns : goal.returns
returns c =
    opened-levels _ _ _ _ _ _ _ _ c.requires.0 (omega arith) (omega arith) (c.«open».ensures 0) (c.open-2.ensures nan)
