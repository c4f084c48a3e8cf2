-- Names by their codes: the one whose code is less comes first.
use mathlib.Core.Path.{◌≡◌, refl, ◌∙◌}
use mathlib.Core.Bool.{Bool, true, false, cond}
use mathlib.Core.List.{List, [], ◌∷◌}
use Prim.Native.Nat.{ℕ, zero, suc, ◌+◌, ◌*◌, ◌-◌, ◌<◌}
use native.Mathlib.Omega.{arith}
use borrow.Author.Tests.{ltb-true, ltb-false}
use mir.Val.{bool_byte}
use lib.Dec.{ltb}
use lib.ListN.{drop}
use Rattle.json_text.specs.Content.{before}
use Rattle.member_order.specs.Codes.{digit, code_from, Digits, CodeOf}
use Rattle.member_order.specs.Names.{order_of}
use Rattle.member_order.specs.Order.{pick_by}
use Rattle.member_order.proofs.Before.{before-less, before-equal, before-not-after, Bytes, bytes, less, more, equal}

-- digits behind a lesser number make a lesser one
pub code-less : (n a b : ℕ) (x y : List ℕ) → Digits n x → a < b → code_from n a x < code_from n b y
unfolding code_from
code-less zero a b x y p h = h
code-less (suc n) a b x y p h = code-less n (a * 256 + digit x) (b * 256 + digit y) (drop 1 x) (drop 1 y) p.1 (omega (arith, p.0))

code-before : (n a : ℕ) (x y : List ℕ) → Digits n x → Digits n y → code_from n a x < code_from n a y → before x y ≡ true
unfolding code_from before
code-before zero a x y p q h = absurd (omega arith)
code-before (suc n) a [] [] p q h = code-before n (a * 256 + 0) [] [] p.1 q.1 h
code-before (suc n) a [] (c ∷ y) p q h = refl
code-before (suc n) a (b ∷ x) [] p q h =
    let k = code-less n (a * 256 + 0) (a * 256 + (b + 1)) [] x q.1 (omega arith) in
    absurd (omega arith)
code-before (suc n) a (b ∷ x) (c ∷ y) p q h = go (bytes b c) (λ m. code-before n m x y p.1 q.1)
  where
    go : Bytes b c → ((m : ℕ) → code_from n m x < code_from n m y → before x y ≡ true) → before (b ∷ x) (c ∷ y) ≡ true
    go (less k) r = before-less b c x y k
    go (more k) r =
        let l = code-less n (a * 256 + (c + 1)) (a * 256 + (b + 1)) y x q.1 (omega arith) in
        absurd (omega arith)
    go (equal k) r = before-equal b c x y k ∙ r (a * 256 + (c + 1)) (rw k at h)

codes-before : {x y : List ℕ} {c d : ℕ} → CodeOf x c → CodeOf y d → c < d → before x y ≡ true
codes-before {x} {y} p q h = code-before 6 0 x y p.digits q.digits (omega (arith, p.is, q.is))

-- what is chosen by codes that differ
module _ {nx ny : List ℕ} {c d : ℕ} (p : CodeOf nx c) (q : CodeOf ny d) (n : c ≡ d → ⊥) where
  pub chosen : (x y i j w k : ℕ) → w ≡ cond (ltb c d) x y → k ≡ bool_byte (ltb c d)
      → record { word = w; i = i + k; j = j + 1 - k } ≡ pick_by (order_of nx ny) x y i j
  unfolding order_of
  chosen x y i j w k e f = go (ltb c d) refl e f
    where
      go : (b : Bool) → ltb c d ≡ b → w ≡ cond b x y → k ≡ bool_byte b
          → record { word = w; i = i + k; j = j + 1 - k } ≡ pick_by (order_of nx ny) x y i j
      go true t u v =
          let r : j + 1 - k ≡ j = omega arith in
          rw (codes-before p q (ltb-true c d t), u, r, v)
      go false t u v =
          let b = codes-before q p (omega (arith, ltb-false c d t, n)) in
          let r : i + k ≡ i = omega arith in
          let s : j + 1 - k ≡ j + 1 = omega arith in
          rw (before-not-after ny nx b, b, u, r, s)
