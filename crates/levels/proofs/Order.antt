-- The order of a side: which of two prices is the better, and what a side in order says of its levels and their number.
use mathlib.Core.Path.{◌≡◌, refl}
use mathlib.Core.Logic.{◌⊎◌, inl, inr}
use mathlib.Core.Bool.{Bool, true, false, ◌&&◌, cond}
use mathlib.Core.List.{List, [], ◌∷◌, ◌++◌}
use Prim.Native.Nat.{ℕ, ◌+◌, ◌≤◌, ◌<◌}
use native.Mathlib.Omega.{arith}
use lib.Dec.{leb, eqb}
use lib.ListN.{length}
use borrow.Author.Tests.{lt-ltb, le-ltb, eq-eqb, ne_eqb, leb-true, le-leb}
use Rattle.rules.specs.Lists.{keep, any, Each, Rising}
use Rattle.rules.proofs.Tests.{by_cond, and-true-left, and-true-right}
use Rattle.rules.proofs.ListLaws.{each-imp, each_append}
use Rattle.words.proofs.Cases.{below_or}
use Rattle.levels.specs.declared.Level.{Level}
use Rattle.levels.specs.Depth.{most, better, level_allowed, better_than_next, in_order, side_sound}
use Rattle.levels.proofs.Prices.{better-over}

-- ---- of two prices

-- one is the better, or they are one price
pub data Stand (bid : Bool) (p q : ℕ) : Type 0 where
  ahead : better bid p q ≡ true → better bid q p ≡ false → eqb p q ≡ false → Stand bid p q
  level : better bid p q ≡ false → better bid q p ≡ false → eqb p q ≡ true → Stand bid p q
  behind : better bid p q ≡ false → better bid q p ≡ true → eqb p q ≡ false → Stand bid p q

low : (p q : ℕ) → Stand false p q
low p q = go (below_or p q) (below_or q p)
  where
    go : (p < q) ⊎ (q ≤ p) → (q < p) ⊎ (p ≤ q) → Stand false p q
    go (inl h) k = ahead (lt-ltb p q h) (le-ltb q p (omega arith)) (ne_eqb p q (λ e. omega arith))
    go (inr h) (inl k) = behind (le-ltb p q h) (lt-ltb q p k) (ne_eqb p q (λ e. omega arith))
    go (inr h) (inr k) = level (le-ltb p q h) (le-ltb q p k) (eq-eqb p q (omega arith))

pub stand : (bid : Bool) (p q : ℕ) → Stand bid p q
stand false p q = low p q
stand true p q = turned (low p q)
  where
    turned : Stand false p q → Stand true p q
    turned (ahead a b e) = behind b a e
    turned (level a b e) = level b a e
    turned (behind a b e) = ahead b a e

-- ---- a side in order

abbrev pub Better : Bool → Level → Level → Type 0
Better bid l m = better bid l.price m.price ≡ true

abbrev pub Allowed : Level → Type 0
Allowed l = level_allowed l ≡ true

-- what `side_sound` says: each level better than all behind it
pub record Sound (bid : Bool) (ls : List Level) : Type 0 where
  pub few : length ls ≤ most
  pub allowed : Each Allowed ls
  pub rising : Rising (Better bid) ls

three : (a b c : Bool) → ((a && b) && c) ≡ true → (a ≡ true) × (b ≡ true) × (c ≡ true)
three a b c e = let h = and-true-left (a && b) c e in (and-true-left a b h, and-true-right a b h, and-true-right (a && b) c e)

module _ (bid : Bool) where
  beyond : (l : Level) (ls : List Level) → better_than_next bid l ls ≡ true → Rising (Better bid) ls → Each (Better bid l) ls
  unfolding Rising
  beyond l [] e r = tt
  beyond l (m ∷ ms) e r = (e, each-imp (Better bid m) (Better bid l) (λ x h. better-over bid l.price m.price x.price e h) ms r.0)

  next : (l : Level) (ls : List Level) → Each (Better bid l) ls → better_than_next bid l ls ≡ true
  next l [] h = refl
  next l (m ∷ ms) h = h.0

  in-order-says : (ls : List Level) → in_order bid ls ≡ true → Each Allowed ls × Rising (Better bid) ls
  unfolding in_order Rising
  in-order-says [] e = (tt, tt)
  in-order-says (l ∷ ls) e =
      let (a, b, c) = three (level_allowed l) (better_than_next bid l ls) (in_order bid ls) e in
      let (h, r) = in-order-says ls c in ((a, h), (beyond l ls b r, r))

  in-order-is : (ls : List Level) → Each Allowed ls → Rising (Better bid) ls → in_order bid ls ≡ true
  unfolding in_order Rising
  in-order-is [] h r = refl
  in-order-is (l ∷ ls) h r = rw (h.0, next l ls r.0) (in-order-is ls h.1 r.1)

  pub sound-says : (ls : List Level) → side_sound bid ls ≡ true → Sound bid ls
  unfolding side_sound
  sound-says ls e =
      let (h, r) = in-order-says ls (and-true-right (leb (length ls) most) (in_order bid ls) e) in
      record { few = leb-true (length ls) most (and-true-left (leb (length ls) most) (in_order bid ls) e); allowed = h; rising = r }

  pub sound-is : (ls : List Level) → Sound bid ls → side_sound bid ls ≡ true
  unfolding side_sound
  sound-is ls s = rw (le-leb (length ls) most s.few) (in-order-is ls s.allowed s.rising)

-- ---- lists joined, and levels counted

pub passes : {A : Type 0} (t : A → Bool) (l : List A) → Each (λ x. t x ≡ true) (keep t l)
passes t [] = tt
passes t (x ∷ xs) = by_cond (Each (λ x. t x ≡ true)) (t x) (λ e. (e, passes t xs)) (λ e. passes t xs)

module _ {A : Type 0} (R : A → A → Type 0) where
  pub rising-append : (l r : List A) → Rising R l → Rising R r → Each (λ x. Each (R x) r) l → Rising R (l ++ r)
  unfolding Rising
  rising-append [] r a b h = b
  rising-append (x ∷ xs) r a b h = (each_append (R x) xs r a.0 h.0, rising-append xs r a.1 b h.1)

-- the levels better than a price, those worse and one at it are no more than all
abbrev pub PartsFit : Bool → ℕ → List Level → Type 0
PartsFit bid p ls =
    length (keep (λ l. better bid l.price p) ls) + length (keep (λ l. better bid p l.price) ls) + cond (any (λ l. eqb l.price p) ls) 1 0 ≤ length ls

pub parts-fit : (bid : Bool) (p : ℕ) (ls : List Level) → PartsFit bid p ls
parts-fit bid p [] = omega arith
parts-fit bid p (l ∷ ls) = go (stand bid l.price p) (parts-fit bid p ls)
  where
    go : Stand bid l.price p → PartsFit bid p ls → PartsFit bid p (l ∷ ls)
    go (ahead a b e) h = rw (a, b, e) (omega arith)
    go (level a b e) h = rw (a, b, e) (omega arith)
    go (behind a b e) h = rw (a, b, e) (omega arith)
