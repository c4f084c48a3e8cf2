-- Rows by their place, so that one order serves tables by two words and tables by three.
use mathlib.Core.Path.{◌≡◌, refl, sym, ◌∙◌, ap, subst, fun_ext}
use mathlib.Core.List.{List, [], ◌∷◌, ◌++◌}
use mathlib.Core.Bool.{Bool, true, false, ◌&&◌, ◌||◌, cond}
use Prim.Native.Nat.{ℕ}
use Rattle.rules.specs.Quantities.{Key, key}
use Rattle.rules.specs.Lists.{any, insert, keep, Each, Rising}
use Rattle.rules.proofs.Order.{same_pair, same_pair-true, pair_before}
use Rattle.rows.specs.Rows.{Row, lower, level, below, alike}
use Rattle.rows.specs.Tables.{before, Before, merged}
use Rattle.rows.proofs.Order.{pair_order}
use Rattle.rows.proofs.Merged

abbrev pub spot : Bool → ℕ → ℕ → ℕ → Key × ℕ
spot three x y z = (key x y, cond three z 0)

abbrev pub pos : Bool → Row → Key × ℕ
pos three r = spot three r.a r.b r.c

pub below-is : (three : Bool) (r : Row) (x y z : ℕ) → below three r x y z ≡ pair_before (pos three r) (spot three x y z)
below-is true r x y z = refl
below-is false r x y z = go (lower r x y) (level r x y)
  where
    go : (a b : Bool) → a ≡ (a || b && false)
    go true b = refl
    go false true = refl
    go false false = refl

pub alike_is : (three : Bool) (r : Row) (x y z : ℕ) → alike three r x y z ≡ same_pair (pos three r) (spot three x y z)
alike_is true r x y z = refl
alike_is false r x y z = go (level r x y)
  where
    go : (a : Bool) → a ≡ (a && true)
    go true = refl
    go false = refl

module _ (three : Bool) where
  pub before-is : before three ≡ (λ r s. pair_before (pos three r) (pos three s))
  before-is = fun_ext (λ r. fun_ext (λ s. below-is three r s.a s.b s.c))

  -- the rows at the place of the words x, y, z
  abbrev pub mine : ℕ → ℕ → ℕ → Row → Bool
  mine x y z r = alike three r x y z

  pub mine-is : (x y z : ℕ) → mine x y z ≡ (λ r. same_pair (pos three r) (spot three x y z))
  mine-is x y z = fun_ext (λ r. alike_is three r x y z)

  -- the rows at the place of s
  abbrev pub beside : Row → Row → Bool
  beside s r = alike three r s.a s.b s.c

  beside-is : beside ≡ (λ s r. same_pair (pos three r) (pos three s))
  beside-is = fun_ext (λ s. mine-is s.a s.b s.c)

  -- where s is such a row, they are those beside it
  pub mine-beside : (s : Row) (x y z : ℕ) → alike three s x y z ≡ true → mine x y z ≡ beside s
  mine-beside s x y z h =
      let q : pos three s ≡ spot three x y z = same_pair-true (pos three s) (spot three x y z) (sym (alike_is three s x y z) ∙ h) in
      mine-is x y z ∙ ap (λ (p : Key × ℕ). λ (r : Row). same_pair (pos three r) p) (sym q) ∙ sym (mine-is s.a s.b s.c)

  -- what is said of the places' order and equality, said of the rows
  of-rows : (P : (Row → Row → Bool) → (Row → Row → Bool) → Type 0)
      → P (λ r s. pair_before (pos three r) (pos three s)) (λ s r. same_pair (pos three r) (pos three s)) → P (before three) beside
  of-rows P h =
      subst (P (before three)) (sym beside-is)
      (subst (λ (lt : Row → Row → Bool). P lt (λ s r. same_pair (pos three r) (pos three s))) (sym before-is) h)

  pub before-trans : (r s t : Row) → Before three r s → Before three s t → Before three r t
  before-trans =
      of-rows
      (λ lt is. (r s t : Row) → lt r s ≡ true → lt s t ≡ true → lt r t ≡ true)
      (λ r s t. pair_order.trans (pos three r) (pos three s) (pos three t))

  -- ---- the laws of merged lists, of rows
  pub merged-cons : (xs : List Row) (y : Row) (ys : List Row) → Each (Before three y) ys
      → merged (before three) xs (y ∷ ys) ≡ insert (before three) y (merged (before three) xs ys)
  merged-cons =
      of-rows
      (λ lt is. (xs : List Row) (y : Row) (ys : List Row) → Each (λ z. lt y z ≡ true) ys → merged lt xs (y ∷ ys) ≡ insert lt y (merged lt xs ys))
      (Merged.merged-cons (pos three) pair_before same_pair pair_order)

  pub merged-one : (xs : List Row) (y : Row) → merged (before three) xs (y ∷ []) ≡ insert (before three) y xs
  merged-one xs y = merged-cons xs y [] tt ∙ ap (insert (before three) y) (Merged.merged-nil (before three) xs)

  pub insert-new : (x : Row) (xs ys : List Row) → insert (before three) x (merged (before three) xs ys) ≡ merged (before three) xs (insert (before three) x ys)
  insert-new =
      of-rows
      (λ lt is. (x : Row) (xs ys : List Row) → insert lt x (merged lt xs ys) ≡ merged lt xs (insert lt x ys))
      (Merged.insert-new (pos three) pair_before same_pair pair_order)

  pub merged-split : (xs zs : List Row) (y : Row) (ys : List Row) → Each (λ x. Before three x y) xs → Each (Before three y) zs → Each (λ x. Before three x y) ys
      → merged (before three) (xs ++ zs) (ys ++ (y ∷ [])) ≡ merged (before three) xs ys ++ (y ∷ zs)
  merged-split =
      of-rows
      (λ lt is. (xs zs : List Row) (y : Row) (ys : List Row) → Each (λ x. lt x y ≡ true) xs → Each (λ z. lt y z ≡ true) zs → Each (λ x. lt x y ≡ true) ys
      → merged lt (xs ++ zs) (ys ++ (y ∷ [])) ≡ merged lt xs ys ++ (y ∷ zs))
      (Merged.merged-split (pos three) pair_before same_pair pair_order)

  -- no row of ys has the place of one of xs
  abbrev pub Apart : List Row → List Row → Type 0
  Apart xs ys = Each (λ y. any (beside y) xs ≡ false) ys

  pub rising-merged : (xs ys : List Row) → Rising (Before three) xs → Rising (Before three) ys → Apart xs ys
      → Rising (Before three) (merged (before three) xs ys)
  rising-merged =
      of-rows
      (λ lt is. (xs ys : List Row) → Rising (λ r s. lt r s ≡ true) xs → Rising (λ r s. lt r s ≡ true) ys → Each (λ y. any (is y) xs ≡ false) ys
      → Rising (λ r s. lt r s ≡ true) (merged lt xs ys))
      (Merged.rising-merged (pos three) pair_before same_pair pair_order)

  pub merged-rising : (xs ys : List Row) → Rising (Before three) (merged (before three) xs ys)
      → Rising (Before three) xs × (Rising (Before three) ys × Apart xs ys)
  merged-rising =
      of-rows
      (λ lt is. (xs ys : List Row) → Rising (λ r s. lt r s ≡ true) (merged lt xs ys)
      → Rising (λ r s. lt r s ≡ true) xs × (Rising (λ r s. lt r s ≡ true) ys × Each (λ y. any (is y) xs ≡ false) ys))
      (Merged.merged-rising (pos three) pair_before same_pair pair_order)

  pub keep-merged : (t : Row → Bool) (xs ys : List Row) → Rising (Before three) xs → Rising (Before three) ys
      → keep t (merged (before three) xs ys) ≡ merged (before three) (keep t xs) (keep t ys)
  keep-merged =
      of-rows
      (λ lt is. (t : Row → Bool) (xs ys : List Row) → Rising (λ r s. lt r s ≡ true) xs → Rising (λ r s. lt r s ≡ true) ys
      → keep t (merged lt xs ys) ≡ merged lt (keep t xs) (keep t ys))
      (Merged.keep-merged (pos three) pair_before same_pair pair_order)
