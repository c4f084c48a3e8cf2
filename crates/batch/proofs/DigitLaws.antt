-- Binary digits written one by one.
use mathlib.Core.Path.{◌≡◌, refl, sym, ap, ◌∙◌}
use mathlib.Core.List.{List, ◌++◌, append-nil}
use Prim.Native.Nat.{ℕ, suc, ◌+◌, ◌-◌, ◌/◌, ◌%◌, ◌<◌}
use native.Mathlib.Nat.{sub-zero}
use native.Mathlib.Omega.{arith}
use lib.ListN.{length, take, set}
use lib.Seq.{append_snoc, take-suc-set}
use Rattle.batch.specs.Batch.{bits}

pub digits-none : (n x : ℕ) → bits (n - 0) x ≡ bits n x
digits-none n x = rw sub-zero refl

pub digits_more : (n x i rest : ℕ) (row : List ℕ) → i < n → i < length row → take i row ++ bits (n - i) rest ≡ bits n x
    → take (i + 1) (set row i (rest % 2)) ++ bits (n - (i + 1)) (rest / 2) ≡ bits n x
unfolding bits
digits_more n x i rest row h l e =
    let d = rest % 2 in
    let b = bits (n - (i + 1)) (rest / 2) in
    let p : i + 1 ≡ suc i = omega arith in
    let q : n - i ≡ suc (n - (i + 1)) = omega arith in
    ap (λ (j : ℕ). take j (set row i d) ++ b) p ∙ ap (λ (t : List ℕ). t ++ b) (take-suc-set row i d l) ∙ append_snoc (take i row) d b ∙ ap (λ (m : ℕ). take i row ++ bits m rest) (sym q) ∙ e

pub digits-all : (n x i rest : ℕ) (row : List ℕ) → i ≡ n → take i row ++ bits (n - i) rest ≡ bits n x → take n row ≡ bits n x
unfolding bits
digits-all n x i rest row h e =
    let z : n - i ≡ 0 = omega arith in
    ap (λ (j : ℕ). take j row) (sym h) ∙ sym (append-nil (take i row)) ∙ ap (λ (m : ℕ). take i row ++ bits m rest) (sym z) ∙ e
