use mathlib.Core.Path.{◌≡◌}
use native.Mathlib.Omega.{arith}
use Rattle.member_order.proofs.Rewriting.{copied_none, copied_more}
use Rattle.member_order.proofs.sort.copy_back.Goals as goal

pub loop-i-init : goal.loop-i-init
loop-i-init c = (omega arith, copied_none _ c.args.merged.now _)

pub loop-i-preserved : goal.loop-i-preserved
loop-i-preserved c = (omega arith, copied_more _ _ _ _ _ c.loop-i.invariant.1 (omega arith) (omega arith))

pub shape_of-words : goal.shape_of-words
shape_of-words c = c.loop-i.invariant.1.size

pub returns : goal.returns
returns c =
    let b = c.loop-i in
    let q : b.i ≡ c.args.n = omega arith in
    rw q at b.invariant.1
