-- How two names lie: `before` is a strict total order, and what `order_of` says of it.
use mathlib.Core.Path.{◌≡◌, refl, sym, ◌∙◌}
use mathlib.Core.Bool.{Bool, true, false}
use mathlib.Core.List.{List, [], ◌∷◌}
use Prim.Native.Nat.{ℕ, ◌<◌}
use native.Mathlib.Omega.{arith}
use lib.Dec.{ltb}
use borrow.Author.Tests.{ltb-true, ltb-false, lt-ltb, le-ltb}
use Rattle.rules.proofs.Tests.{ff≢tt}
use Rattle.json_text.specs.Content.{before}
use Rattle.std.specs.declared.cmp.Ordering.{Ordering}
use Rattle.member_order.specs.Names.{pick_order, order_of}

cons : {a b : ℕ} {x y : List ℕ} → a ≡ b → x ≡ y → a ∷ x ≡ b ∷ y
cons p q = λ i. p i ∷ q i

pub before-not-itself : (x : List ℕ) → before x x ≡ false
unfolding before
before-not-itself [] = refl
before-not-itself (a ∷ x) = rw (le-ltb a a (omega arith)) (before-not-itself x)

-- by the first bytes
pub before-less : (a b : ℕ) (x y : List ℕ) → a < b → before (a ∷ x) (b ∷ y) ≡ true
unfolding before
before-less a b x y h = rw (lt-ltb a b h)

pub before_more : (a b : ℕ) (x y : List ℕ) → b < a → before (a ∷ x) (b ∷ y) ≡ false
unfolding before
before_more a b x y h = rw (le-ltb a b (omega arith), lt-ltb b a h)

pub before-equal : (a b : ℕ) (x y : List ℕ) → a ≡ b → before (a ∷ x) (b ∷ y) ≡ before x y
unfolding before
before-equal a b x y h = rw (le-ltb a b (omega arith), le-ltb b a (omega arith))

-- the first bytes: less, more or equal
pub data Bytes (a b : ℕ) : Type 0 where
  less : a < b → Bytes a b
  more : b < a → Bytes a b
  equal : a ≡ b → Bytes a b

pub bytes : (a b : ℕ) → Bytes a b
bytes a b = go (ltb a b) (ltb b a) refl refl
  where
    go : (s t : Bool) → ltb a b ≡ s → ltb b a ≡ t → Bytes a b
    go true t p q = less (ltb-true a b p)
    go false true p q = more (ltb-true b a q)
    go false false p q = let h = ltb-false a b p in let k = ltb-false b a q in equal (omega arith)

pub before-trans : (x y z : List ℕ) → before x y ≡ true → before y z ≡ true → before x z ≡ true
unfolding before
before-trans [] [] z p q = absurd (ff≢tt refl p)
before-trans [] (b ∷ y) [] p q = absurd (ff≢tt refl q)
before-trans [] (b ∷ y) (c ∷ z) p q = refl
before-trans (a ∷ x) [] z p q = absurd (ff≢tt refl p)
before-trans (a ∷ x) (b ∷ y) [] p q = absurd (ff≢tt refl q)
before-trans (a ∷ x) (b ∷ y) (c ∷ z) p q = go (bytes a b) (bytes b c) (before-trans x y z)
  where
    go : Bytes a b → Bytes b c → (before x y ≡ true → before y z ≡ true → before x z ≡ true) → before (a ∷ x) (c ∷ z) ≡ true
    go (more h) k r = absurd (ff≢tt (before_more a b x y h) p)
    go (less h) (more k) r = absurd (ff≢tt (before_more b c y z k) q)
    go (less h) (less k) r = before-less a c x z (omega arith)
    go (less h) (equal k) r = before-less a c x z (omega arith)
    go (equal h) (more k) r = absurd (ff≢tt (before_more b c y z k) q)
    go (equal h) (less k) r = before-less a c x z (omega arith)
    go (equal h) (equal k) r =
        before-equal a c x z (h ∙ k) ∙ r (sym (before-equal a b x y h) ∙ p) (sym (before-equal b c y z k) ∙ q)

pub before-not-after : (x y : List ℕ) → before x y ≡ true → before y x ≡ false
before-not-after x y h = go (before y x) refl
  where
    go : (b : Bool) → before y x ≡ b → before y x ≡ false
    go true e = absurd (ff≢tt (before-not-itself x) (before-trans x y x h e))
    go false e = e

pub same-unless-before : (x y : List ℕ) → before x y ≡ false → before y x ≡ false → x ≡ y
unfolding before
same-unless-before [] [] p q = refl
same-unless-before [] (b ∷ y) p q = absurd (ff≢tt p refl)
same-unless-before (a ∷ x) [] p q = absurd (ff≢tt q refl)
same-unless-before (a ∷ x) (b ∷ y) p q = go (bytes a b) (same-unless-before x y)
  where
    go : Bytes a b → (before x y ≡ false → before y x ≡ false → x ≡ y) → a ∷ x ≡ b ∷ y
    go (less h) r = absurd (ff≢tt p (before-less a b x y h))
    go (more h) r = absurd (ff≢tt q (before-less b a y x h))
    go (equal h) r = cons h (r (sym (before-equal a b x y h) ∙ p) (sym (before-equal b a y x (sym h)) ∙ q))

-- how two names lie
pub data Lies (x y : List ℕ) : Type 0 where
  first : before x y ≡ true → Lies x y
  later : before y x ≡ true → Lies x y
  same : x ≡ y → Lies x y

pub lies : (x y : List ℕ) → Lies x y
lies x y = go (before x y) (before y x) refl refl
  where
    go : (s t : Bool) → before x y ≡ s → before y x ≡ t → Lies x y
    go true t p q = first p
    go false true p q = later q
    go false false p q = same (same-unless-before x y p q)

-- what an order says of two names
abbrev pub Says : List ℕ → List ℕ → Ordering → Type 0
Says x y Ordering.Less = before x y ≡ true
Says x y Ordering.Equal = x ≡ y
Says x y Ordering.Greater = before y x ≡ true

pub order-says : (x y : List ℕ) → Says x y (order_of x y)
unfolding order_of
order-says x y = go (before x y) (before y x) refl refl
  where
    go : (s t : Bool) → before x y ≡ s → before y x ≡ t → Says x y (pick_order s Ordering.Less (pick_order t Ordering.Greater Ordering.Equal))
    go true t p q = p
    go false true p q = q
    go false false p q = same-unless-before x y p q
