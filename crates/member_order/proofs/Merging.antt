-- Places whose names rise, and two such lists merged.
use mathlib.Core.Path.{◌≡◌, refl, ◌∙◌, ap}
use mathlib.Core.Bool.{true}
use mathlib.Core.List.{List, [], ◌∷◌}
use Prim.Native.Nat.{ℕ, zero, suc, suc-le-suc}
use native.Mathlib.Nat.{not-suc-le-zero, le_of_suc-le-suc}
use native.Mathlib.Omega.{arith}
use lib.ListN.{drop, get_or}
use Rattle.json_text.specs.Content.{before}
use Rattle.member_order.specs.Order.{insert, insert_all, ordered, Rising}
use Rattle.member_order.proofs.Before.{before-trans, Lies, lies, first, later, same}
use Rattle.member_order.proofs.Insert.{Each, each_nil, each-cons, each-head, each_tail, each-insert, each-insert_all}
use Rattle.member_order.proofs.Insert.{insert-first, insert-later, insert-same}

module _ (name : ℕ → List ℕ) where
  -- each lies behind p
  abbrev pub Behind : ℕ → ℕ → Type 0
  Behind p q = before (name p) (name q) ≡ true

  -- ---- a rising list by its first place
  pub rising-nil : Rising name []
  unfolding Rising
  rising-nil i j h l = absurd (not-suc-le-zero l)

  pub rising-cons : (p : ℕ) (x : List ℕ) → Each (Behind p) x → Rising name x → Rising name (p ∷ x)
  unfolding Rising
  rising-cons p x f r i zero h l = absurd (not-suc-le-zero h)
  rising-cons p x f r zero (suc j) h l = f j (le_of_suc-le-suc l)
  rising-cons p x f r (suc i) (suc j) h l = r i j (le_of_suc-le-suc h) (le_of_suc-le-suc l)

  pub rising-head : (p : ℕ) (x : List ℕ) → Rising name (p ∷ x) → Each (Behind p) x
  unfolding Rising
  rising-head p x r i h = r 0 (suc i) (omega arith) (suc-le-suc h)

  pub rising-tail : (p : ℕ) (x : List ℕ) → Rising name (p ∷ x) → Rising name x
  unfolding Rising
  rising-tail p x r i j h l = r (suc i) (suc j) (suc-le-suc h) (suc-le-suc l)

  pub rising-drop : (x : List ℕ) (i : ℕ) → Rising name x → Rising name (drop i x)
  rising-drop x zero r = r
  rising-drop [] (suc i) r = r
  rising-drop (p ∷ x) (suc i) r = rising-drop x i (rising-tail p x r)

  behind-all : (p q : ℕ) (x : List ℕ) → Behind p q → Each (Behind q) x → Each (Behind p) (q ∷ x)
  behind-all p q x h f = each-cons (Behind p) q x h (λ i l. before-trans (name p) (name q) (name (get_or x i 0)) h (f i l))

  -- ---- what is put in order rises
  rising-insert : (p : ℕ) (x : List ℕ) → Rising name x → Rising name (insert name p x)
  unfolding insert
  rising-insert p [] r = rising-cons p [] (each_nil (Behind p)) r
  rising-insert p (q ∷ x) r = go (lies (name p) (name q)) (rising-insert p x (rising-tail q x r))
    where
      go : Lies (name p) (name q) → Rising name (insert name p x) → Rising name (insert name p (q ∷ x))
      go (first k) ih = rw (insert-first name p q x k) (rising-cons p (q ∷ x) (behind-all p q x k (rising-head q x r)) r)
      go (same k) ih = rw (insert-same name p q x k) r
      go (later k) ih =
          rw (insert-later name p q x k) (rising-cons q (insert name p x) (each-insert name (Behind q) p x k (rising-head q x r)) ih)

  pub rising-insert_all : (x y : List ℕ) → Rising name y → Rising name (insert_all name x y)
  unfolding insert_all
  rising-insert_all [] y r = r
  rising-insert_all (p ∷ x) y r = rising-insert p (insert_all name x y) (rising-insert_all x y r)

  pub rising-ordered : (x : List ℕ) → Rising name (ordered name x)
  rising-ordered x = rising-insert_all x [] rising-nil

  -- ---- what comes first of two rising lists
  insert-front : (p : ℕ) (x : List ℕ) → Each (Behind p) x → insert name p x ≡ p ∷ x
  unfolding insert
  insert-front p [] f = refl
  insert-front p (q ∷ x) f = insert-first name p q x (each-head (Behind p) q x f)

  insert_all-behind : (z : ℕ) (x y : List ℕ) → Each (Behind z) x → insert_all name x (z ∷ y) ≡ z ∷ insert_all name x y
  unfolding insert_all
  insert_all-behind z [] y f = refl
  insert_all-behind z (p ∷ x) y f =
      ap (insert name p) (insert_all-behind z x y (each_tail (Behind z) p x f))
      ∙ insert-later name p z (insert_all name x y) (each-head (Behind z) p x f)

  pub merge-alone : (p : ℕ) (x : List ℕ) → Rising name (p ∷ x) → insert_all name (p ∷ x) [] ≡ p ∷ insert_all name x []
  unfolding insert_all
  merge-alone p x r =
      insert-front p (ordered name x) (each-insert_all name (Behind p) x [] (rising-head p x r) (each_nil (Behind p)))

  module _ (p z : ℕ) (x y : List ℕ) (r : Rising name (p ∷ x)) (s : Rising name (z ∷ y)) where
    pub merge-before : Behind p z → insert_all name (p ∷ x) (z ∷ y) ≡ p ∷ insert_all name x (z ∷ y)
    unfolding insert_all
    merge-before h =
        insert-front p (insert_all name x (z ∷ y))
        (each-insert_all name (Behind p) x (z ∷ y) (rising-head p x r) (behind-all p z y h (rising-head z y s)))

    pub merge-after : Behind z p → insert_all name (p ∷ x) (z ∷ y) ≡ z ∷ insert_all name (p ∷ x) y
    merge-after h = insert_all-behind z (p ∷ x) y (behind-all z p x h (rising-head p x r))

    pub merge-same : name p ≡ name z → insert_all name (p ∷ x) (z ∷ y) ≡ z ∷ insert_all name x y
    unfolding insert_all
    merge-same h =
        ap (insert name p) (insert_all-behind z x y (λ i l. rw (← h) (rising-head p x r i l)))
        ∙ insert-same name p z (insert_all name x y) h
