use mathlib.Core.Path.{◌∙◌, ap}
use mathlib.Core.List.{List}
use Prim.Native.Nat.{ℕ}
use native.Mathlib.Omega.{arith}
use Rattle.member_order.proofs.DecodeLaws.{decoded-length}
use Rattle.writing.specs.Writing.{written}
use Rattle.writing.proofs.bytes.put_char.Goals as goal

pub put_decoded-requires : goal.put_decoded-requires
put_decoded-requires c =
    let d = c.decode-d.ensures in
    (d.most, omega (arith, decoded-length d))

pub returns : goal.returns
returns c =
    let d = c.decode-d.ensures in
    let p = c.put_decoded.ensures in
    let a = c.args in
    (p.0 ∙ ap (λ (x : List ℕ). written a.pos x a.out.now) d.is, omega (arith, p.1, decoded-length d))
