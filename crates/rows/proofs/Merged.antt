-- Two lists merged: what the merged list says of the two, and how it grows.
use Rattle.std.specs.Prelude.{Option, None, Some}
use mathlib.Core.Path.{◌≡◌, refl, sym, ◌∙◌, ap, subst}
use mathlib.Core.Logic.{◌⊎◌, inl, inr}
use mathlib.Core.List.{List, [], ◌∷◌, ◌++◌}
use mathlib.Core.Bool.{Bool, true, false, ◌||◌, cond}
use Prim.Native.Nat.{◌+◌}
use native.Mathlib.Omega.{arith}
use lib.ListN.{length}
use Rattle.rules.specs.Lists.{any, first, amend, insert, keep, Each, Rising}
use Rattle.rules.proofs.Tests.{ff≢tt, untrue, either, by_cond, or-false-left, or-false-right, or-moved}
use Rattle.rules.proofs.ListLaws.{each-imp, each_keep}
use Rattle.rows.specs.Tables.{merged}
use Rattle.rows.proofs.Order.{Order, less-differs, more-differs, less-not-more}

or-grouped : (a b c : Bool) → (a || (b || c)) ≡ ((a || b) || c)
or-grouped true b c = refl
or-grouped false b c = refl

-- ---- any two lists

module _ {A : Type 0} where
  cons : (x : A) {l m : List A} → l ≡ m → x ∷ l ≡ x ∷ m
  cons x q = λ i. x ∷ q i

  each_all : (P : A → Type 0) (l : List A) → ((x : A) → P x) → Each P l
  each_all P [] h = tt
  each_all P (x ∷ xs) h = (h x, each_all P xs h)

  -- none passes
  pub first-lacks : (t : A → Bool) (l : List A) → any t l ≡ false → first t l ≡ None
  first-lacks t [] h = refl
  first-lacks t (x ∷ l) h = rw (or-false-left (t x) (any t l) h) (first-lacks t l (or-false-right (t x) (any t l) h))

  pub amend-lacks : (t : A → Bool) (g : A → A) (l : List A) → any t l ≡ false → amend t g l ≡ l
  amend-lacks t g [] h = refl
  amend-lacks t g (x ∷ l) h = rw (or-false-left (t x) (any t l) h) (cons x (amend-lacks t g l (or-false-right (t x) (any t l) h)))

module _ {A : Type 0} (lt : A → A → Bool) where
  -- the next is of ys
  pub merged-right : (x : A) (xs : List A) (y : A) (ys : List A) → lt y x ≡ true → merged lt (x ∷ xs) (y ∷ ys) ≡ y ∷ merged lt (x ∷ xs) ys
  merged-right x xs y ys e = ap (λ (b : Bool). cond b (y ∷ merged lt (x ∷ xs) ys) (x ∷ merged lt xs (y ∷ ys))) e

  -- the next is of xs
  pub merged-left : (x : A) (xs : List A) (y : A) (ys : List A) → lt y x ≡ false → merged lt (x ∷ xs) (y ∷ ys) ≡ x ∷ merged lt xs (y ∷ ys)
  merged-left x xs y ys e = ap (λ (b : Bool). cond b (y ∷ merged lt (x ∷ xs) ys) (x ∷ merged lt xs (y ∷ ys))) e

  -- induction by the steps of a merge
  module _ (P : List A → List A → List A → Type 0) (None : (ys : List A) → P [] ys ys)
      (last : (x : A) (xs : List A) → P xs [] (merged lt xs []) → P (x ∷ xs) [] (x ∷ merged lt xs []))
      (right : (x : A) (xs : List A) (y : A) (ys : List A) → lt y x ≡ true → P (x ∷ xs) ys (merged lt (x ∷ xs) ys)
      → P (x ∷ xs) (y ∷ ys) (y ∷ merged lt (x ∷ xs) ys))
      (left : (x : A) (xs : List A) (y : A) (ys : List A) → lt y x ≡ false → P xs (y ∷ ys) (merged lt xs (y ∷ ys))
      → P (x ∷ xs) (y ∷ ys) (x ∷ merged lt xs (y ∷ ys))) where
    around-by : (x : A) (xs : List A) → ((ys : List A) → P xs ys (merged lt xs ys)) → (ys : List A) → P (x ∷ xs) ys (merged lt (x ∷ xs) ys)
    around-by x xs h [] = last x xs (h [])
    around-by x xs h (y ∷ ys) = by_cond (P (x ∷ xs) (y ∷ ys)) (lt y x) (λ e. right x xs y ys e (around-by x xs h ys)) (λ e. left x xs y ys e (h (y ∷ ys)))

    merged_by : (xs ys : List A) → P xs ys (merged lt xs ys)
    merged_by [] ys = None ys
    merged_by (x ∷ xs) ys = around-by x xs (λ zs. merged_by xs zs) ys

  pub merged-nil : (xs : List A) → merged lt xs [] ≡ xs
  merged-nil [] = refl
  merged-nil (x ∷ xs) = cons x (merged-nil xs)

  pub any-merged : (t : A → Bool) (xs ys : List A) → any t (merged lt xs ys) ≡ (any t xs || any t ys)
  any-merged t =
      merged_by (λ xs ys m. any t m ≡ (any t xs || any t ys))
      (λ ys. refl)
      (λ x xs r. ap (λ (b : Bool). t x || b) r ∙ or-grouped (t x) (any t xs) false)
      (λ x xs y ys e r.
      ap (λ (b : Bool). t y || b) r
      ∙ or-grouped (t y) (any t (x ∷ xs)) (any t ys)
      ∙ or-moved (t y) (any t (x ∷ xs)) (any t ys))
      (λ x xs y ys e r. ap (λ (b : Bool). t x || b) r ∙ or-grouped (t x) (any t xs) (any t (y ∷ ys)))

  pub each-merged : (P : A → Type 0) (xs ys : List A) → Each P xs → Each P ys → Each P (merged lt xs ys)
  each-merged P =
      merged_by (λ xs ys m. Each P xs → Each P ys → Each P m)
      (λ ys p q. q)
      (λ x xs r p q. (p.0, r p.1 q))
      (λ x xs y ys e r p q. (q.0, r p q.1))
      (λ x xs y ys e r p q. (p.0, r p.1 q))

  pub merged-each : (P : A → Type 0) (xs ys : List A) → Each P (merged lt xs ys) → Each P xs × Each P ys
  merged-each P =
      merged_by (λ xs ys m. Each P m → Each P xs × Each P ys)
      (λ ys q. (tt, q))
      (λ x xs r p. ((p.0, (r p.1).0), tt))
      (λ x xs y ys e r p. ((r p.1).0, (p.0, (r p.1).1)))
      (λ x xs y ys e r p. ((p.0, (r p.1).0), (r p.1).1))

  pub length_merged : (xs ys : List A) → length (merged lt xs ys) ≡ length xs + length ys
  length_merged =
      merged_by (λ xs ys m. length m ≡ length xs + length ys)
      (λ ys. omega arith)
      (λ x xs r. omega arith)
      (λ x xs y ys e r. omega arith)
      (λ x xs y ys e r. omega arith)

  -- ---- where one of the two has none that passes, the other is the one to look in
  pub first-old : (t : A → Bool) (xs ys : List A) → any t ys ≡ false → first t (merged lt xs ys) ≡ first t xs
  first-old t =
      merged_by (λ xs ys m. any t ys ≡ false → first t m ≡ first t xs)
      (λ ys h. first-lacks t ys h)
      (λ x xs r h. ap (λ (a : Option A). cond (t x) (Some x) a) (r h))
      (λ x xs y ys e r h. rw (or-false-left (t y) (any t ys) h) (r (or-false-right (t y) (any t ys) h)))
      (λ x xs y ys e r h. ap (λ (a : Option A). cond (t x) (Some x) a) (r h))

  pub first-new : (t : A → Bool) (xs ys : List A) → any t xs ≡ false → first t (merged lt xs ys) ≡ first t ys
  first-new t =
      merged_by (λ xs ys m. any t xs ≡ false → first t m ≡ first t ys)
      (λ ys h. refl)
      (λ x xs r h. rw (or-false-left (t x) (any t xs) h) (r (or-false-right (t x) (any t xs) h)))
      (λ x xs y ys e r h. ap (λ (a : Option A). cond (t y) (Some y) a) (r h))
      (λ x xs y ys e r h. rw (or-false-left (t x) (any t xs) h) (r (or-false-right (t x) (any t xs) h)))

  -- a change that moves nothing
  module _ (t : A → Bool) (g : A → A) (above : (a r : A) → lt a (g r) ≡ lt a r) (below : (r a : A) → lt (g r) a ≡ lt r a) where
    pub amend-old : (xs ys : List A) → any t ys ≡ false → amend t g (merged lt xs ys) ≡ merged lt (amend t g xs) ys
    amend-old =
        merged_by (λ xs ys m. any t ys ≡ false → amend t g m ≡ merged lt (amend t g xs) ys)
        (λ ys h. amend-lacks t g ys h)
        (λ x xs r h. at_last x xs (t x) (r h))
        (λ x xs y ys e r h. rw (or-false-left (t y) (any t ys) h) (at_right x xs y ys e (t x) (r (or-false-right (t y) (any t ys) h))))
        (λ x xs y ys e r h. at_left x xs y ys e (t x) (r h))
      where
        at_last : (x : A) (xs : List A) (c : Bool) → amend t g (merged lt xs []) ≡ merged lt (amend t g xs) []
            → cond c (g x ∷ merged lt xs []) (x ∷ amend t g (merged lt xs [])) ≡ merged lt (cond c (g x ∷ xs) (x ∷ amend t g xs)) []
        at_last x xs true r = refl
        at_last x xs false r = cons x r

        at_right : (x : A) (xs : List A) (y : A) (ys : List A) → lt y x ≡ true → (c : Bool)
            → amend t g (merged lt (x ∷ xs) ys) ≡ merged lt (cond c (g x ∷ xs) (x ∷ amend t g xs)) ys
            → y ∷ amend t g (merged lt (x ∷ xs) ys) ≡ merged lt (cond c (g x ∷ xs) (x ∷ amend t g xs)) (y ∷ ys)
        at_right x xs y ys e true r = cons y r ∙ sym (merged-right (g x) xs y ys (above y x ∙ e))
        at_right x xs y ys e false r = cons y r ∙ sym (merged-right x (amend t g xs) y ys e)

        at_left : (x : A) (xs : List A) (y : A) (ys : List A) → lt y x ≡ false → (c : Bool)
            → amend t g (merged lt xs (y ∷ ys)) ≡ merged lt (amend t g xs) (y ∷ ys)
            → cond c (g x ∷ merged lt xs (y ∷ ys)) (x ∷ amend t g (merged lt xs (y ∷ ys))) ≡ merged lt (cond c (g x ∷ xs) (x ∷ amend t g xs)) (y ∷ ys)
        at_left x xs y ys e true r = sym (merged-left (g x) xs y ys (above y x ∙ e))
        at_left x xs y ys e false r = cons x r ∙ sym (merged-left x (amend t g xs) y ys e)

    pub amend-new : (xs ys : List A) → any t xs ≡ false → amend t g (merged lt xs ys) ≡ merged lt xs (amend t g ys)
    amend-new =
        merged_by (λ xs ys m. any t xs ≡ false → amend t g m ≡ merged lt xs (amend t g ys))
        (λ ys h. refl)
        (λ x xs r h. rw (or-false-left (t x) (any t xs) h) (cons x (r (or-false-right (t x) (any t xs) h))))
        (λ x xs y ys e r h. at_right x xs y ys e (t y) (r h))
        (λ x xs y ys e r h. rw (or-false-left (t x) (any t xs) h) (at_left x xs y ys e (t y) (r (or-false-right (t x) (any t xs) h))))
      where
        at_right : (x : A) (xs : List A) (y : A) (ys : List A) → lt y x ≡ true → (c : Bool)
            → amend t g (merged lt (x ∷ xs) ys) ≡ merged lt (x ∷ xs) (amend t g ys)
            → cond c (g y ∷ merged lt (x ∷ xs) ys) (y ∷ amend t g (merged lt (x ∷ xs) ys)) ≡ merged lt (x ∷ xs) (cond c (g y ∷ ys) (y ∷ amend t g ys))
        at_right x xs y ys e true r = sym (merged-right x xs (g y) ys (below y x ∙ e))
        at_right x xs y ys e false r = cons y r ∙ sym (merged-right x xs y (amend t g ys) e)

        at_left : (x : A) (xs : List A) (y : A) (ys : List A) → lt y x ≡ false → (c : Bool)
            → amend t g (merged lt xs (y ∷ ys)) ≡ merged lt xs (cond c (g y ∷ ys) (y ∷ amend t g ys))
            → x ∷ amend t g (merged lt xs (y ∷ ys)) ≡ merged lt (x ∷ xs) (cond c (g y ∷ ys) (y ∷ amend t g ys))
        at_left x xs y ys e true r = cons x r ∙ sym (merged-left x xs (g y) ys (below y x ∙ e))
        at_left x xs y ys e false r = cons x r ∙ sym (merged-left x xs y (amend t g ys) e)

-- ---- two lists in an order of their places

module _ {A I : Type 0} (pos : A → I) (B S : I → I → Bool) (o : Order B S) where
  abbrev lt : A → A → Bool
  lt a b = B (pos a) (pos b)

  abbrev at : I → A → Bool
  at p r = S (pos r) p

  abbrev Less : A → A → Type 0
  Less a b = B (pos a) (pos b) ≡ true

  trans : (a b c : A) → Less a b → Less b c → Less a c
  trans a b c = o.trans (pos a) (pos b) (pos c)

  -- what is not above b is before all that b is before
  not-above : (a b c : A) → lt b a ≡ false → Less c a → Less c b
  not-above a b c e h = go (either (S (pos b) (pos a)))
    where
      go : (S (pos b) (pos a) ≡ true) ⊎ (S (pos b) (pos a) ≡ false) → Less c b
      go (inl q) = subst (λ (p : I). B (pos c) p ≡ true) (sym (o.equal (pos b) (pos a) q)) h
      go (inr q) = trans c a b h (o.total (pos b) (pos a) e q)

  insert-front : (y : A) (l : List A) → Each (Less y) l → insert lt y l ≡ y ∷ l
  insert-front y [] h = refl
  insert-front y (x ∷ l) h = rw h.0

  -- the first of the new ones goes in last
  pub merged-cons : (xs : List A) (y : A) (ys : List A) → Each (Less y) ys → merged lt xs (y ∷ ys) ≡ insert lt y (merged lt xs ys)
  merged-cons xs y =
      merged_by lt (λ xs ys m. Each (Less y) ys → merged lt xs (y ∷ ys) ≡ insert lt y m)
      (λ ys h. sym (insert-front y ys h))
      (λ x xs r h. ap (λ (l : List A). cond (lt y x) (y ∷ x ∷ merged lt xs []) (x ∷ l)) (r h))
      (λ x xs z zs e r h.
      merged-right lt x xs y (z ∷ zs) (trans y z x h.0 e)
      ∙ cons y (merged-right lt x xs z zs e)
      ∙ sym (ap (λ (b : Bool). cond b (y ∷ z ∷ merged lt (x ∷ xs) zs) (z ∷ insert lt y (merged lt (x ∷ xs) zs))) h.0))
      (λ x xs z zs e r h.
      ap (λ (l : List A). cond (lt y x) (y ∷ l) (x ∷ merged lt xs (y ∷ z ∷ zs))) (merged-left lt x xs z zs e)
      ∙ ap (λ (l : List A). cond (lt y x) (y ∷ x ∷ merged lt xs (z ∷ zs)) (x ∷ l)) (r h))
      xs

  pub merged-one : (xs : List A) (y : A) → merged lt xs (y ∷ []) ≡ insert lt y xs
  merged-one xs y = merged-cons xs y [] tt ∙ ap (insert lt y) (merged-nil lt xs)

  -- one more among the new ones
  pub insert-new : (x : A) (xs ys : List A) → insert lt x (merged lt xs ys) ≡ merged lt xs (insert lt x ys)
  insert-new x =
      merged_by lt (λ xs ys m. insert lt x m ≡ merged lt xs (insert lt x ys))
      (λ ys. refl)
      (λ a xs r. ap (λ (l : List A). cond (lt x a) (x ∷ a ∷ merged lt xs []) (a ∷ l)) r)
      (λ a xs y ys e r. at_right a xs y ys e (lt x y) refl r)
      (λ a xs y ys e r. at_left a xs y ys e (lt x a) refl (lt x y) refl r)
    where
      at_right : (a : A) (xs : List A) (y : A) (ys : List A) → Less y a → (c : Bool) → lt x y ≡ c
          → insert lt x (merged lt (a ∷ xs) ys) ≡ merged lt (a ∷ xs) (insert lt x ys)
          → cond c (x ∷ y ∷ merged lt (a ∷ xs) ys) (y ∷ insert lt x (merged lt (a ∷ xs) ys)) ≡ merged lt (a ∷ xs) (cond c (x ∷ y ∷ ys) (y ∷ insert lt x ys))
      at_right a xs y ys e true q r =
          sym (merged-right lt a xs x (y ∷ ys) (trans x y a q e) ∙ cons x (merged-right lt a xs y ys e))
      at_right a xs y ys e false q r = cons y r ∙ sym (merged-right lt a xs y (insert lt x ys) e)

      at_left : (a : A) (xs : List A) (y : A) (ys : List A) → lt y a ≡ false → (c : Bool) → lt x a ≡ c → (d : Bool) → lt x y ≡ d
          → insert lt x (merged lt xs (y ∷ ys)) ≡ merged lt xs (cond d (x ∷ y ∷ ys) (y ∷ insert lt x ys))
          → cond c (x ∷ a ∷ merged lt xs (y ∷ ys)) (a ∷ insert lt x (merged lt xs (y ∷ ys))) ≡ merged lt (a ∷ xs) (cond d (x ∷ y ∷ ys) (y ∷ insert lt x ys))
      at_left a xs y ys e true p true q r = sym (merged-right lt a xs x (y ∷ ys) p ∙ cons x (merged-left lt a xs y ys e))
      at_left a xs y ys e true p false q r = absurd (ff≢tt q (not-above a y x e p))
      at_left a xs y ys e false p true q r = cons a r ∙ sym (merged-left lt a xs x (y ∷ ys) p)
      at_left a xs y ys e false p false q r = cons a r ∙ sym (merged-left lt a xs y (insert lt x ys) e)

  -- the last step of a merge from behind
  pub merged-split : (xs zs : List A) (y : A) (ys : List A) → Each (λ x. Less x y) xs → Each (Less y) zs → Each (λ x. Less x y) ys
      → merged lt (xs ++ zs) (ys ++ (y ∷ [])) ≡ merged lt xs ys ++ (y ∷ zs)
  merged-split xs zs y ys p h q =
      merged_by lt
      (λ xs ys m. Each (λ x. Less x y) xs → Each (λ x. Less x y) ys → merged lt (xs ++ zs) (ys ++ (y ∷ [])) ≡ m ++ (y ∷ zs))
      (λ ys p q. first-of-zs zs h ys q)
      (λ x xs r p q. merged-left lt x (xs ++ zs) y [] (after x p.0) ∙ cons x (r p.1 tt))
      (λ x xs a ys e r p q. merged-right lt x (xs ++ zs) a (ys ++ (y ∷ [])) e ∙ cons a (r p q.1))
      (λ x xs a ys e r p q. merged-left lt x (xs ++ zs) a (ys ++ (y ∷ [])) e ∙ cons x (r p.1 q))
      xs ys p q
    where
      after : (x : A) → Less x y → lt y x ≡ false
      after x l = less-not-more B S o (pos x) (pos y) l

      first-of-zs : (zs : List A) → Each (Less y) zs → (ys : List A) → Each (λ x. Less x y) ys → merged lt zs (ys ++ (y ∷ [])) ≡ ys ++ (y ∷ zs)
      first-of-zs [] h ys q = refl
      first-of-zs (z ∷ zs) h [] q = merged-right lt z zs y [] h.0 ∙ ap (λ (l : List A). y ∷ z ∷ l) (merged-nil lt zs)
      first-of-zs (z ∷ zs) h (a ∷ ys) q = merged-right lt z zs a (ys ++ (y ∷ [])) (trans a y z q.0 h.0) ∙ cons a (first-of-zs (z ∷ zs) h ys q.1)

  -- ---- rising
  other_way : (a b : I) → S a b ≡ false → S b a ≡ false
  other_way a b h =
      untrue (S b a)
      (λ e. let q : b ≡ a = o.equal b a e in ff≢tt h (ap (λ (p : I). S a p) q ∙ sym (ap (λ (p : I). S p a) q) ∙ e))

  -- no place of ys is one of xs
  abbrev Apart : List A → List A → Type 0
  Apart xs ys = Each (λ y. any (at (pos y)) xs ≡ false) ys

  pub rising-merged : (xs ys : List A) → Rising Less xs → Rising Less ys → Apart xs ys → Rising Less (merged lt xs ys)
  unfolding Rising
  rising-merged =
      merged_by lt (λ xs ys m. Rising Less xs → Rising Less ys → Apart xs ys → Rising Less m)
      (λ ys p q h. q)
      (λ x xs r p q h. (each-merged lt (Less x) xs [] p.0 tt, r p.1 tt tt))
      (λ x xs y ys e r p q h. (
        each-merged lt (Less y) (x ∷ xs) ys (e, each-imp (Less x) (Less y) (λ z l. trans y x z e l) xs p.0) q.0,
        r p q.1 h.1,
      ))
      (λ x xs y ys e r p q h.
      let l : Less x y = o.total (pos y) (pos x) e (other_way (pos x) (pos y) (or-false-left (at (pos y) x) (any (at (pos y)) xs) h.0)) in (
        each-merged lt (Less x) xs (y ∷ ys) p.0 (l, each-imp (Less y) (Less x) (λ z k. trans x y z l k) ys q.0),
        r p.1 q (apart-less x xs (y ∷ ys) h),
      ))
    where
      apart-less : (x : A) (xs ys : List A) → Apart (x ∷ xs) ys → Apart xs ys
      apart-less x xs [] h = tt
      apart-less x xs (y ∷ ys) h = (or-false-right (at (pos y) x) (any (at (pos y)) xs) h.0, apart-less x xs ys h.1)

  pub merged-rising : (xs ys : List A) → Rising Less (merged lt xs ys) → Rising Less xs × (Rising Less ys × Apart xs ys)
  unfolding Rising
  merged-rising =
      merged_by lt (λ xs ys m. Rising Less m → Rising Less xs × (Rising Less ys × Apart xs ys))
      (λ ys h. (tt, (h, each_all (λ y. false ≡ false) ys (λ y. refl))))
      (λ x xs r h. (((merged-each lt (Less x) xs [] h.0).0, (r h.1).0), (tt, tt)))
      (λ x xs y ys e r h.
      let k : Each (Less y) (x ∷ xs) × Each (Less y) ys = merged-each lt (Less y) (x ∷ xs) ys h.0 in
      let (p, (q, z)) = r h.1 in
      (p, ((k.1, q), (lacks y (x ∷ xs) k.0, z))))
      (λ x xs y ys e r h.
      let k : Each (Less x) xs × Each (Less x) (y ∷ ys) = merged-each lt (Less x) xs (y ∷ ys) h.0 in
      let (p, (q, z)) = r h.1 in
      ((k.0, p), (q, apart_more x xs (y ∷ ys) k.1 z)))
    where
      lacks : (y : A) (l : List A) → Each (Less y) l → any (at (pos y)) l ≡ false
      lacks y [] h = refl
      lacks y (x ∷ l) h = rw (more-differs B S o (pos x) (pos y) h.0) (lacks y l h.1)

      apart_more : (x : A) (xs ys : List A) → Each (Less x) ys → Apart xs ys → Apart (x ∷ xs) ys
      apart_more x xs [] l z = tt
      apart_more x xs (y ∷ ys) l z = (rw (less-differs B S o (pos x) (pos y) l.0) z.0, apart_more x xs ys l.1 z.1)

  -- ---- the rows that pass a test
  all-before : (zs : List A) (y : A) (ws : List A) → Each (Less y) zs → merged lt zs (y ∷ ws) ≡ y ∷ merged lt zs ws
  all-before [] y ws h = refl
  all-before (z ∷ zs) y ws h = merged-right lt z zs y ws h.0

  all-behind : (x : A) (zs ws : List A) → Each (λ w. lt w x ≡ false) ws → merged lt (x ∷ zs) ws ≡ x ∷ merged lt zs ws
  all-behind x zs [] h = refl
  all-behind x zs (w ∷ ws) h = merged-left lt x zs w ws h.0

  pub keep-merged : (t : A → Bool) (xs ys : List A) → Rising Less xs → Rising Less ys → keep t (merged lt xs ys) ≡ merged lt (keep t xs) (keep t ys)
  unfolding Rising
  keep-merged t =
      merged_by lt (λ xs ys m. Rising Less xs → Rising Less ys → keep t m ≡ merged lt (keep t xs) (keep t ys))
      (λ ys p q. refl)
      (λ x xs r p q. at_last x xs (t x) (r p.1 tt))
      (λ x xs y ys e r p q. at_right x xs y ys (e, each-imp (Less x) (Less y) (λ z l. trans y x z e l) xs p.0) (t y) (r p q.1))
      (λ x xs y ys e r p q.
      at_left x xs y ys (e, each-imp (Less y) (λ w. lt w x ≡ false) (λ w l. untrue (lt w x) (λ h. ff≢tt e (trans y w x l h))) ys q.0) (t x) (r p.1 q))
    where
      at_last : (x : A) (xs : List A) (b : Bool) → keep t (merged lt xs []) ≡ merged lt (keep t xs) []
          → cond b (x ∷ keep t (merged lt xs [])) (keep t (merged lt xs [])) ≡ merged lt (cond b (x ∷ keep t xs) (keep t xs)) []
      at_last x xs true r = cons x r
      at_last x xs false r = r

      at_right : (x : A) (xs : List A) (y : A) (ys : List A) → Each (Less y) (x ∷ xs) → (b : Bool)
          → keep t (merged lt (x ∷ xs) ys) ≡ merged lt (keep t (x ∷ xs)) (keep t ys)
          → cond b (y ∷ keep t (merged lt (x ∷ xs) ys)) (keep t (merged lt (x ∷ xs) ys)) ≡ merged lt (keep t (x ∷ xs)) (cond b (y ∷ keep t ys) (keep t ys))
      at_right x xs y ys h true r = cons y r ∙ sym (all-before (keep t (x ∷ xs)) y (keep t ys) (each_keep (Less y) t (x ∷ xs) h))
      at_right x xs y ys h false r = r

      at_left : (x : A) (xs : List A) (y : A) (ys : List A) → Each (λ w. lt w x ≡ false) (y ∷ ys) → (b : Bool)
          → keep t (merged lt xs (y ∷ ys)) ≡ merged lt (keep t xs) (keep t (y ∷ ys))
          → cond b (x ∷ keep t (merged lt xs (y ∷ ys))) (keep t (merged lt xs (y ∷ ys))) ≡ merged lt (cond b (x ∷ keep t xs) (keep t xs)) (keep t (y ∷ ys))
      at_left x xs y ys h true r = cons x r ∙ sym (all-behind x (keep t xs) (keep t (y ∷ ys)) (each_keep (λ w. lt w x ≡ false) t (y ∷ ys) h))
      at_left x xs y ys h false r = r
