use mathlib.Core.Path.{◌≡◌, ap}
use Prim.Native.Nat.{ℕ, ◌%◌}
use native.Mathlib.Omega.{arith}
use Rattle.member_order.specs.Codes.{PlaceOf}
use Rattle.member_order.proofs.Making.{made_none, made_more, made-here}
use Rattle.member_order.proofs.codes.store.Goals as goal

pub loop-i-init : goal.loop-i-init
loop-i-init c = made_none PlaceOf _ _

pub loop-i-preserved : goal.loop-i-preserved
loop-i-preserved c =
    let m = c.loop-i.invariant in
    made_more PlaceOf _ _ _ _ m _ (omega arith) (ap (λ (x : ℕ). x % 65536) (made-here PlaceOf _ _ _ _ m))

pub shape_of-words : goal.shape_of-words
shape_of-words c = c.loop-i.invariant.size

pub returns : goal.returns
returns c =
    let b = c.loop-i in
    let q : b.i ≡ c.args.n = omega arith in
    rw q at b.invariant
