-- Laws of lists: what holds of each element, and of the lists with tests.
use Rattle.std.specs.Prelude.{Some}
use mathlib.Core.Path.{◌≡◌, refl, ◌∙◌, ap, subst}
use mathlib.Core.List.{List, [], ◌∷◌, ◌++◌, map}
use mathlib.Core.Bool.{Bool, true, false, ◌||◌}
use Prim.Native.Nat.{ℕ, zero, suc, ◌+◌, ◌≤◌, ◌<◌}
use native.Mathlib.Omega.{arith}
use native.Mathlib.Nat.{not-suc-le-zero, le_of_suc-le-suc}
use lib.ListN.{length, get_or, drop, set}
use Rattle.rules.specs.Lists.{keep, any, only, count, Each, Rising}
use Rattle.rules.proofs.Tests.{by_cond, or-true}

module _ {A : Type 0} where
  pub each-imp : (P Q : A → Type 0) → ((x : A) → P x → Q x) → (l : List A) → Each P l → Each Q l
  each-imp P Q f [] h = tt
  each-imp P Q f (x ∷ xs) h = (f x h.0, each-imp P Q f xs h.1)

  pub each_set : (P : A → Type 0) (l : List A) (i : ℕ) (v : A) → P v → Each P l → Each P (set l i v)
  each_set P [] i v p h = tt
  each_set P (x ∷ xs) zero v p h = (p, h.1)
  each_set P (x ∷ xs) (suc i) v p h = (h.0, each_set P xs i v p h.1)

  pub each_keep : (P : A → Type 0) (t : A → Bool) (l : List A) → Each P l → Each P (keep t l)
  each_keep P t [] h = tt
  each_keep P t (x ∷ xs) h = by_cond (Each P) (t x) (λ e. (h.0, each_keep P t xs h.1)) (λ e. each_keep P t xs h.1)

  pub each_at : (P : A → Type 0) (l : List A) (i : ℕ) (d : A) → i < length l → Each P l → P (get_or l i d)
  each_at P [] i d h e = absurd (not-suc-le-zero h)
  each_at P (x ∷ xs) zero d h e = e.0
  each_at P (x ∷ xs) (suc i) d h e = each_at P xs i d (le_of_suc-le-suc h) e.1

  pub any_at : (t : A → Bool) (l : List A) (i : ℕ) (d : A) → i < length l → t (get_or l i d) ≡ true → any t l ≡ true
  any_at t [] i d h e = absurd (not-suc-le-zero h)
  any_at t (x ∷ xs) zero d h e = ap (λ (b : Bool). b || any t xs) e
  any_at t (x ∷ xs) (suc i) d h e = ap (λ (b : Bool). t x || b) (any_at t xs i d (le_of_suc-le-suc h) e) ∙ or-true (t x)

  pub any-set : (t : A → Bool) (l : List A) (i : ℕ) (v d : A) → t v ≡ t (get_or l i d) → any t (set l i v) ≡ any t l
  any-set t [] i v d e = refl
  any-set t (x ∷ xs) zero v d e = ap (λ (b : Bool). b || any t xs) e
  any-set t (x ∷ xs) (suc i) v d e = ap (λ (b : Bool). t x || b) (any-set t xs i v d e)

  pub any_none : (l : List A) → any (λ x. false) l ≡ false
  any_none [] = refl
  any_none (x ∷ xs) = any_none xs

  pub append-nil : (l : List A) → l ++ [] ≡ l
  append-nil [] = refl
  append-nil (x ∷ xs) = ap {B = List A} (λ r. x ∷ r) (append-nil xs)

  pub only-in : (P : A → Type 0) (l : List A) (a : A) → only l ≡ Some a → Each P l → P a
  only-in P [] a e h = absurd (let z : ◌≡◌ {A = ℕ} 0 1 = cc in omega arith)
  only-in P (x ∷ []) a e h = let q : x ≡ a = cc in subst P q h.0
  only-in P (x ∷ y ∷ l) a e h = absurd (let z : ◌≡◌ {A = ℕ} 0 1 = cc in omega arith)

  -- what passes
  pub each-kept : (P : A → Type 0) (t : A → Bool) (l : List A) → Each P l → Each (λ x. P x × (t x ≡ true)) (keep t l)
  each-kept P t [] h = tt
  each-kept P t (x ∷ xs) h = by_cond (Each (λ x. P x × (t x ≡ true))) (t x) (λ e. ((h.0, e), each-kept P t xs h.1)) (λ e. each-kept P t xs h.1)

  pub each_append : (P : A → Type 0) (l r : List A) → Each P l → Each P r → Each P (l ++ r)
  each_append P [] r h k = k
  each_append P (x ∷ xs) r h k = (h.0, each_append P xs r h.1 k)

  pub length-keep : (t : A → Bool) (l : List A) → length (keep t l) ≤ length l
  length-keep t [] = omega arith
  length-keep t (x ∷ xs) = let h = length-keep t xs in by_cond (λ (r : List A). length r ≤ suc (length xs)) (t x) (λ e. omega arith) (λ e. omega arith)

  pub rising-kept : (R : A → A → Type 0) (t : A → Bool) (l : List A) → Rising R l → Rising R (keep t l)
  unfolding Rising
  rising-kept R t [] o = tt
  rising-kept R t (x ∷ xs) o = by_cond (Rising R) (t x) (λ e. (each_keep (R x) t xs o.0, rising-kept R t xs o.1)) (λ e. rising-kept R t xs o.1)

module _ {A B : Type 0} where
  pub each_map : (P : A → Type 0) (Q : B → Type 0) (f : A → B) → ((x : A) → P x → Q (f x)) → (l : List A) → Each P l → Each Q (map f l)
  each_map P Q f g [] h = tt
  each_map P Q f g (x ∷ xs) h = (g x h.0, each_map P Q f g xs h.1)

  pub map-append : (f : A → B) (l r : List A) → map f (l ++ r) ≡ map f l ++ map f r
  map-append f [] r = refl
  map-append f (x ∷ xs) r = ap {B = List B} (λ t. f x ∷ t) (map-append f xs r)

  pub map-drop : (f : A → B) (n : ℕ) (l : List A) → map f (drop n l) ≡ drop n (map f l)
  map-drop f zero l = refl
  map-drop f (suc n) [] = refl
  map-drop f (suc n) (x ∷ xs) = map-drop f n xs

-- a count's members lie from its start to below its end
pub each-count : (a n : ℕ) → Each (λ i. (a ≤ i) × (i < a + n)) (count a n)
each-count a zero = tt
each-count a (suc n) = (omega arith, each-imp (λ i. (suc a ≤ i) × (i < suc a + n)) (λ i. (a ≤ i) × (i < a + suc n)) (λ i h. omega arith) (count (suc a) n) (each-count (suc a) n))
