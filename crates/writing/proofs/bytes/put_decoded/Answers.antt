use mathlib.Core.Path.{◌≡◌, sym}
use mathlib.Core.List.{[], ◌∷◌}
use native.Mathlib.Numerals.{add-one, add-two, add-three}
use native.Mathlib.Omega.{arith}
use lib.ListN.{length-set}
use Rattle.writing.proofs.WrittenLaws.{written_none, written-sets}
use Rattle.writing.proofs.bytes.put_decoded.Goals as goal

pub returns-then-len-eq0 : goal.returns-then-len-eq0
returns-then-len-eq0 c =
    let a = c.args in
    let e : a.d.len ≡ 0 = c.if-len-eq0.true in
    (rw e (sym (written_none a.pos a.out.now)), omega arith)

pub returns-then-len-eq1 : goal.returns-then-len-eq1
returns-then-len-eq1 c =
    let a = c.args in
    let e : a.d.len ≡ 1 = c.if-len-eq1.true in
    (rw e (written-sets a.pos (a.d.b0 ∷ []) a.out.now (omega arith)), omega arith)

pub returns-then-len-eq2 : goal.returns-then-len-eq2
returns-then-len-eq2 c =
    let a = c.args in
    let e : a.d.len ≡ 2 = c.if-len-eq2.true in
    (rw (e, add-one) (written-sets a.pos (a.d.b0 ∷ a.d.b1 ∷ []) a.out.now (omega arith)), omega arith)

pub returns-then-len-eq3 : goal.returns-then-len-eq3
returns-then-len-eq3 c =
    let a = c.args in
    let e : a.d.len ≡ 3 = c.if-len-eq3.true in
    (rw (e, add-one, add-two) (written-sets a.pos (a.d.b0 ∷ a.d.b1 ∷ a.d.b2 ∷ []) a.out.now (omega arith)), omega arith)

pub returns : goal.returns
returns c =
    let a = c.args in
    let e : a.d.len ≡ 4 = omega arith in
    (rw (e, add-one, add-two, add-three) (written-sets a.pos (a.d.b0 ∷ a.d.b1 ∷ a.d.b2 ∷ a.d.b3 ∷ []) a.out.now (omega arith)), omega arith)

pub bounds-out-pos-2 : goal.bounds-out-pos-2
bounds-out-pos-2 c = simp length-set (omega arith)

pub bounds-out-pos-3 : goal.bounds-out-pos-3
bounds-out-pos-3 c = simp length-set (omega arith)

pub bounds-out-pos-4 : goal.bounds-out-pos-4
bounds-out-pos-4 c = simp length-set (omega arith)
