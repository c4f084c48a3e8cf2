use native.Mathlib.Omega.{arith}
use Rattle.place.proofs.Passing.{passes-eight}
use Rattle.place.proofs.pass_eights.Goals as goal

pub loop-i-preserved : goal.loop-i-preserved
loop-i-preserved c =
    passes-eight c.args.keys.now c.loop-i.invariant (omega arith) c.if-keys-p.false c.if-keys-p-2.false c.if-keys-p-3.false c.if-keys-p-4.false c.if-keys-p-5.false
    c.if-keys-p-6.false c.if-keys-p-7.false c.if-keys-p-8.false
