use native.Mathlib.Omega.{arith}
use Rattle.place.proofs.Passing.{passes-one}
use Rattle.place.proofs.next_key.Goals as goal

pub loop-i-preserved : goal.loop-i-preserved
loop-i-preserved c = passes-one c.loop-i.invariant (omega arith) c.if-keys-i.false
