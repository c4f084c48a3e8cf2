-- The rules' tests and changes of a list that is mapped.
use Rattle.std.specs.Prelude.{Some}
use mathlib.Core.Path.{◌≡◌, refl, ap}
use mathlib.Core.List.{List, [], ◌∷◌, map}
use mathlib.Core.Bool.{Bool, true, false, ◌||◌, cond}
use Rattle.rules.specs.Lists.{any, first, amend, insert, keep, maybe, Each, Rising}

module _ {A B : Type 0} (f : A → B) where
  pub any-map : (t : B → Bool) (l : List A) → any t (map f l) ≡ any (λ x. t (f x)) l
  any-map t [] = refl
  any-map t (x ∷ xs) = ap (λ (b : Bool). t (f x) || b) (any-map t xs)

  pub first-map : {C : Type 0} (c : C) (g : B → C) (t : B → Bool) (l : List A) → maybe c g (first t (map f l)) ≡ maybe c (λ x. g (f x)) (first (λ x. t (f x)) l)
  first-map c g t [] = refl
  first-map c g t (x ∷ xs) = go (t (f x)) (first-map c g t xs)
    where
      go : (b : Bool) → maybe c g (first t (map f xs)) ≡ maybe c (λ y. g (f y)) (first (λ y. t (f y)) xs)
          → maybe c g (cond b (Some (f x)) (first t (map f xs))) ≡ maybe c (λ y. g (f y)) (cond b (Some x) (first (λ y. t (f y)) xs))
      go true e = refl
      go false e = e

  -- a change of the mapped that is one of what is mapped
  pub amend-map : (t : B → Bool) (g : B → B) (h : A → A) → ((x : A) → f (h x) ≡ g (f x)) → (l : List A) → map f (amend (λ x. t (f x)) h l) ≡ amend t g (map f l)
  amend-map t g h e [] = refl
  amend-map t g h e (x ∷ xs) = go (t (f x)) (amend-map t g h e xs)
    where
      go : (b : Bool) → map f (amend (λ y. t (f y)) h xs) ≡ amend t g (map f xs)
          → map f (cond b (h x ∷ xs) (x ∷ amend (λ y. t (f y)) h xs)) ≡ cond b (g (f x) ∷ map f xs) (f x ∷ amend t g (map f xs))
      go true q = ap (λ (y : B). y ∷ map f xs) (e x)
      go false q = ap (λ (l : List B). f x ∷ l) q

  pub insert-map : (lt : B → B → Bool) (a : A) (l : List A) → map f (insert (λ x y. lt (f x) (f y)) a l) ≡ insert lt (f a) (map f l)
  insert-map lt a [] = refl
  insert-map lt a (x ∷ xs) = go (lt (f a) (f x)) (insert-map lt a xs)
    where
      go : (b : Bool) → map f (insert (λ y z. lt (f y) (f z)) a xs) ≡ insert lt (f a) (map f xs)
          → map f (cond b (a ∷ x ∷ xs) (x ∷ insert (λ y z. lt (f y) (f z)) a xs)) ≡ cond b (f a ∷ f x ∷ map f xs) (f x ∷ insert lt (f a) (map f xs))
      go true q = refl
      go false q = ap (λ (l : List B). f x ∷ l) q

  pub keep-map : (t : B → Bool) (l : List A) → map f (keep (λ x. t (f x)) l) ≡ keep t (map f l)
  keep-map t [] = refl
  keep-map t (x ∷ xs) = go (t (f x)) (keep-map t xs)
    where
      go : (b : Bool) → map f (keep (λ y. t (f y)) xs) ≡ keep t (map f xs)
          → map f (cond b (x ∷ keep (λ y. t (f y)) xs) (keep (λ y. t (f y)) xs)) ≡ cond b (f x ∷ keep t (map f xs)) (keep t (map f xs))
      go true q = ap (λ (l : List B). f x ∷ l) q
      go false q = q

  pub each_map : (P : B → Type 0) (l : List A) → Each (λ x. P (f x)) l → Each P (map f l)
  each_map P [] e = tt
  each_map P (x ∷ xs) (h, e) = (h, each_map P xs e)

  pub map_each : (P : B → Type 0) (l : List A) → Each P (map f l) → Each (λ x. P (f x)) l
  map_each P [] e = tt
  map_each P (x ∷ xs) (h, e) = (h, map_each P xs e)

  pub rising-map : (R : B → B → Type 0) (l : List A) → Rising (λ x y. R (f x) (f y)) l → Rising R (map f l)
  unfolding Rising
  rising-map R [] r = tt
  rising-map R (x ∷ xs) (h, r) = (each_map (R (f x)) xs h, rising-map R xs r)

  pub map-rising : (R : B → B → Type 0) (l : List A) → Rising R (map f l) → Rising (λ x y. R (f x) (f y)) l
  unfolding Rising
  map-rising R [] r = tt
  map-rising R (x ∷ xs) (h, r) = (map_each (R (f x)) xs h, map-rising R xs r)
