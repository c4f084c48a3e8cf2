-- Lists with tests. Nothing here is about markets.
use Rattle.std.specs.Prelude.{Option, None, Some, ◌≡◌, ◌⊎◌, List, [], ◌∷◌, Bool, true, false, ◌||◌, cond, ℕ, zero, suc, ◌+◌, max}

module _ {A : Type 0} where
  -- those that pass the test
  abbrev pub keep : (A → Bool) → List A → List A
  keep t [] = []
  keep t (x ∷ xs) = cond (t x) (x ∷ keep t xs) (keep t xs)

  abbrev pub any : (A → Bool) → List A → Bool
  any t [] = false
  any t (x ∷ xs) = t x || any t xs

  -- the first that passes
  abbrev pub first : (A → Bool) → List A → Option A
  first t [] = None
  first t (x ∷ xs) = cond (t x) (Some x) (first t xs)

  -- the first that passes, changed
  abbrev pub amend : (A → Bool) → (A → A) → List A → List A
  amend t f [] = []
  amend t f (x ∷ xs) = cond (t x) (f x ∷ xs) (x ∷ amend t f xs)

  -- where the first that passes stands; the length if none does
  abbrev pub index : (A → Bool) → List A → ℕ
  index t [] = zero
  index t (x ∷ xs) = cond (t x) zero (suc (index t xs))

  -- a, in front of the first that it comes before
  abbrev pub insert : (A → A → Bool) → A → List A → List A
  insert before a [] = a ∷ []
  insert before a (x ∷ xs) = cond (before a x) (a ∷ x ∷ xs) (x ∷ insert before a xs)

  abbrev pub nil : List A → Bool
  nil [] = true
  nil (x ∷ xs) = false

  -- the one element of a list of one
  abbrev pub only : List A → Option A
  only [] = None
  only (x ∷ []) = Some x
  only (x ∷ y ∷ zs) = None

  abbrev pub sum : (A → ℕ) → List A → ℕ
  sum f [] = 0
  sum f (x ∷ xs) = f x + sum f xs

  abbrev pub maybe : {B : Type 0} → B → (A → B) → Option A → B
  maybe b f None = b
  maybe b f (Some a) = f a

  abbrev pub is_some : Option A → Bool
  is_some None = false
  is_some (Some a) = true

  -- P holds of each
  abbrev pub Each : (A → Type 0) → List A → Type 0
  Each P [] = Unit {0}
  Each P (x ∷ xs) = P x × Each P xs

  -- x stands in the list
  abbrev pub In : A → List A → Type 0
  In x [] = ⊥
  In x (y ∷ ys) = (x ≡ y) ⊎ In x ys

  -- each stands in the relation R to all behind it
  unfoldable pub Rising : (A → A → Type 0) → List A → Type 0
  Rising R [] = Unit {0}
  Rising R (x ∷ xs) = Each (R x) xs × Rising R xs

-- the largest of n and a list
abbrev pub largest : ℕ → List ℕ → ℕ
largest n [] = n
largest n (x ∷ xs) = max x (largest n xs)

-- n numbers from a on
abbrev pub count : ℕ → ℕ → List ℕ
count a zero = []
count a (suc n) = a ∷ count (suc a) n
