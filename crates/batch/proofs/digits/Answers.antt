use mathlib.Core.Path.{refl, ◌∙◌}
use native.Mathlib.Omega.{arith}
use lib.ListN.{length-set}
use Rattle.batch.proofs.DigitLaws.{digits-none, digits_more, digits-all}
use Rattle.batch.proofs.digits.Goals as goal

pub loop-i-init : goal.loop-i-init
loop-i-init c = (refl, digits-none _ _)

pub loop-i-preserved : goal.loop-i-preserved
loop-i-preserved c =
    let l = c.loop-i in
    let z = l.invariant.0 in
    let p = c.requires in
    (length-set l.row l.i _ ∙ z, digits_more _ _ l.i l.rest l.row (omega arith) (omega arith) l.invariant.1)

pub returns : goal.returns
returns c = let l = c.loop-i in (l.invariant.0, digits-all _ _ l.i l.rest l.row (omega arith) l.invariant.1)
