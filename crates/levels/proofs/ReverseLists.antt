-- A list read from its other end: what passes a test, what holds of each element, and of each with all behind it.
use mathlib.Core.Path.{◌≡◌, refl, sym, ◌∙◌}
use mathlib.Core.Bool.{Bool, true, false, ◌||◌, cond, or-false}
use mathlib.Core.List.{List, [], ◌∷◌, reverse_aux, reverse, reverse-cons, map}
use Rattle.rules.specs.Lists.{keep, any, Each, Rising}
use Rattle.rules.proofs.Tests.{or-moved}
use Rattle.rules.proofs.ListLaws.{each-imp}
use Rattle.levels.proofs.Order.{rising-append}

module _ {A : Type 0} where
  keep-onto : (t : A → Bool) (l r : List A) → keep t (reverse_aux l r) ≡ reverse_aux (keep t l) (keep t r)
  keep-onto t [] r = refl
  keep-onto t (x ∷ xs) r = keep-onto t xs (x ∷ r) ∙ go (t x)
    where
      go : (b : Bool) → reverse_aux (keep t xs) (cond b (x ∷ keep t r) (keep t r)) ≡ reverse_aux (cond b (x ∷ keep t xs) (keep t xs)) (keep t r)
      go true = refl
      go false = refl

  pub keep-reverse : (t : A → Bool) (l : List A) → keep t (reverse l) ≡ reverse (keep t l)
  keep-reverse t l = keep-onto t l []

  any-onto : (t : A → Bool) (l r : List A) → any t (reverse_aux l r) ≡ (any t l || any t r)
  any-onto t [] r = refl
  any-onto t (x ∷ xs) r = any-onto t xs (x ∷ r) ∙ sym (or-moved (t x) (any t xs) (any t r))

  pub any-reverse : (t : A → Bool) (l : List A) → any t (reverse l) ≡ any t l
  any-reverse t l = any-onto t l [] ∙ or-false (any t l)

  each-onto : (P : A → Type 0) (l r : List A) → Each P l → Each P r → Each P (reverse_aux l r)
  each-onto P [] r h k = k
  each-onto P (x ∷ xs) r h k = each-onto P xs (x ∷ r) h.1 (h.0, k)

  pub each-reverse : (P : A → Type 0) (l : List A) → Each P l → Each P (reverse l)
  each-reverse P l h = each-onto P l [] h tt

  pub rising-reverse : (R : A → A → Type 0) (l : List A) → Rising R l → Rising (λ x y. R y x) (reverse l)
  unfolding Rising
  rising-reverse R [] h = tt
  rising-reverse R (x ∷ xs) h =
      rw reverse-cons
      (rising-append (λ x y. R y x) (reverse xs) (x ∷ []) (rising-reverse R xs h.1) (tt, tt)
      (each-reverse (λ z. Each (λ y. R y z) (x ∷ [])) xs (each-imp (R x) (λ z. Each (λ y. R y z) (x ∷ [])) (λ z k. (k, tt)) xs h.0)))

module _ {A B : Type 0} (f : A → B) where
  map-onto : (l r : List A) → map f (reverse_aux l r) ≡ reverse_aux (map f l) (map f r)
  map-onto [] r = refl
  map-onto (x ∷ xs) r = map-onto xs (x ∷ r)

  pub map-reverse : (l : List A) → map f (reverse l) ≡ reverse (map f l)
  map-reverse l = map-onto l []
