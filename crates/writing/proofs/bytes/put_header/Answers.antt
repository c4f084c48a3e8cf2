use mathlib.Core.Path.{◌≡◌, refl, sym, ◌∙◌, ap}
use mathlib.Core.List.{List}
use Prim.Native.Nat.{ℕ, ◌+◌, ◌-◌}
use native.Mathlib.Omega.{arith}
use lib.ListN.{length, set, length-set}
use Rattle.writing.proofs.WrittenLaws.{written_none, written_next}
use Rattle.writing.proofs.PutLaws.{zeros, zeros-length, zeros-more, begun, header-done}
use Rattle.writing.proofs.bytes.put_header.Goals as goal

pub loop-i-init : goal.loop-i-init
loop-i-init c = (omega arith, omega arith, refl, sym (written_none _ _))

pub bounds-out-pos-in-loop-i : goal.bounds-out-pos-in-loop-i
bounds-out-pos-in-loop-i c = omega (arith, (let size_is : length c.loop-i.out ≡ length c.args.out.now = c.loop-i.invariant.2 ∙ simp length-set in size_is))

pub loop-i-preserved : goal.loop-i-preserved
loop-i-preserved c =
    let l = c.loop-i in
    let a = c.args in
    let o = begun a.out.now a.pos a.tag a.count in
    let x = zeros (l.i - 3) in
    let e : a.pos + l.i ≡ a.pos + 3 + length x = omega (arith, zeros-length (l.i - 3)) in (
      omega arith,
      omega arith,
      simp length-set (simp length-set at l.invariant.2),
      rw (zeros-more l.i (omega arith))
          (ap (λ (w : List ℕ). set w (a.pos + l.i) 0) l.invariant.3
          ∙ written_next (a.pos + 3) x o (a.pos + l.i) 0 e (simp length-set (omega arith))),
    )

pub shape_of-out : goal.shape_of-out
shape_of-out c = (let size_is : length c.loop-i.out ≡ length c.args.out.now = c.loop-i.invariant.2 ∙ simp length-set in size_is)

pub returns : goal.returns
returns c =
    let l = c.loop-i in
    let a = c.args in
    let e : l.i ≡ 9 = omega arith in
    (rw e at l.invariant.3) ∙ header-done a.out.now a.pos a.tag a.count c.requires.0 c.requires.1

pub bounds-out-pos-2 : goal.bounds-out-pos-2
bounds-out-pos-2 c = simp length-set (omega arith)

pub bounds-out-pos-3 : goal.bounds-out-pos-3
bounds-out-pos-3 c = simp length-set (omega arith)
