use native.Mathlib.Omega.{arith}
use Rattle.prints.proofs.Staying.{owns-says}
use Rattle.prints.proofs.expiry.owns.Goals as goal

pub returns : goal.returns
returns c =
    let s = c.args in
    owns-says s.c s.area.now s.m s.i s.j _ c.same.ensures (omega arith)
