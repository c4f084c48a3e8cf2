-- The order of keys, and of keys with a connection: strict and total, and its equality is that of the tests.
use mathlib.Core.Path.{◌≡◌, refl, sym, ◌∙◌, ap, subst}
use mathlib.Core.Logic.{◌≢◌, ◌⊎◌, inl, inr}
use mathlib.Core.Bool.{Bool, true, false, ◌&&◌, ◌||◌}
use Prim.Native.Nat.{ℕ, ◌≤◌, ◌<◌}
use native.Mathlib.Omega.{arith}
use lib.Dec.{ltb, eqb}
use Rattle.rules.specs.Quantities.{Key, key, same}
use Rattle.rules.specs.Prints.{before}
use Rattle.rules.proofs.Tests.{ff≢tt, ltb-true, ltb-false, eqb-true, eqb-false, eqb_same, lt-ltb, either, untrue, and-true-left, and-true-right, or-false-left}

pub same_true : (a b : Key) → same a b ≡ true → a ≡ b
same_true a b e =
    let p : a.0 ≡ b.0 = eqb-true (and-true-left (eqb a.0 b.0) (eqb a.1 b.1) e) in
    let q : a.1 ≡ b.1 = eqb-true (and-true-right (eqb a.0 b.0) (eqb a.1 b.1) e) in λ i. key (p i) (q i)

pub same-itself : (k : Key) → same k k ≡ true
same-itself k = rw (eqb_same k.0, eqb_same k.1)

-- a key with a connection
abbrev pub same_pair : Key × ℕ → Key × ℕ → Bool
same_pair p q = same p.0 q.0 && eqb p.1 q.1

pub same_pair-true : (p q : Key × ℕ) → same_pair p q ≡ true → p ≡ q
same_pair-true p q e =
    let a : p.0 ≡ q.0 = same_true p.0 q.0 (and-true-left (same p.0 q.0) (eqb p.1 q.1) e) in
    let b : p.1 ≡ q.1 = eqb-true (and-true-right (same p.0 q.0) (eqb p.1 q.1) e) in λ i. (a i, b i)

pub same_pair-itself : (p : Key × ℕ) → same_pair p p ≡ true
same_pair-itself p = rw (same-itself p.0, eqb_same p.1)

-- first by one test, then, where another says they are level, by a third: what such an order says
pub data Ordered (a b : Key) : Type 0 where
  higher : a.0 < b.0 → Ordered a b
  level : a.0 ≡ b.0 → a.1 < b.1 → Ordered a b

pub before-says : (a b : Key) → before a b ≡ true → Ordered a b
before-says a b e = go (ltb a.0 b.0) refl (eqb a.0 b.0) refl (ltb a.1 b.1) refl e
  where
    go : (x : Bool) → ltb a.0 b.0 ≡ x → (y : Bool) → eqb a.0 b.0 ≡ y → (z : Bool) → ltb a.1 b.1 ≡ z → (x || y && z) ≡ true → Ordered a b
    go true p y q z r h = higher (ltb-true p)
    go false p true q true r h = level (eqb-true q) (ltb-true r)
    go false p true q false r h = absurd (ff≢tt refl h)
    go false p false q z r h = absurd (ff≢tt refl h)

pub before-is : (a b : Key) → Ordered a b → before a b ≡ true
before-is a b (higher h) = ap (λ (x : Bool). x || eqb a.0 b.0 && ltb a.1 b.1) (lt-ltb _ _ h)
before-is a b (level p h) = go (ltb a.0 b.0) (eqb a.0 b.0) (ltb a.1 b.1) (ap (λ (n : ℕ). eqb n b.0) p ∙ eqb_same b.0) (lt-ltb _ _ h)
  where
    go : (x y z : Bool) → y ≡ true → z ≡ true → (x || y && z) ≡ true
    go true y z q r = refl
    go false true z q r = r
    go false false z q r = absurd (ff≢tt refl q)

pub before-trans : (a b c : Key) → before a b ≡ true → before b c ≡ true → before a c ≡ true
before-trans a b c p q = before-is a c (go (before-says a b p) (before-says b c q))
  where
    go : Ordered a b → Ordered b c → Ordered a c
    go (higher h) (higher k) = higher (omega arith)
    go (higher h) (level e k) = higher (omega arith)
    go (level e h) (higher k) = higher (omega arith)
    go (level e h) (level f k) = level (e ∙ f) (omega arith)

pub before-itself : (a : Key) → before a a ≡ false
before-itself a = untrue (before a a) (λ e. no (before-says a a e))
  where
    no : Ordered a a → ⊥
    no (higher h) = omega arith
    no (level e h) = omega arith

-- of two keys that are not the same one comes before the other
pub before-total : (a b : Key) → before a b ≡ false → same a b ≡ false → before b a ≡ true
before-total a b p q = before-is b a (go (either (ltb b.0 a.0)) (either (eqb b.0 a.0)) (either (ltb b.1 a.1)))
  where
    no : Ordered a b → ⊥
    no o = ff≢tt p (before-is a b o)

    go : (ltb b.0 a.0 ≡ true) ⊎ (ltb b.0 a.0 ≡ false) → (eqb b.0 a.0 ≡ true) ⊎ (eqb b.0 a.0 ≡ false)
        → (ltb b.1 a.1 ≡ true) ⊎ (ltb b.1 a.1 ≡ false) → Ordered b a
    go (inl h) y z = higher (ltb-true h)
    go (inr h) (inr e) z = absurd (no (higher (let u : a.0 ≤ b.0 = ltb-false h in let v : b.0 ≢ a.0 = eqb-false e in omega arith)))
    go (inr h) (inl e) (inl z) = level (eqb-true e) (ltb-true z)
    go (inr h) (inl e) (inr z) = absurd (equal (sym (eqb-true e)) (ltb-false z))
      where
        equal : a.0 ≡ b.0 → a.1 ≤ b.1 → ⊥
        equal u v = pick (either (ltb a.1 b.1))
          where
            pick : (ltb a.1 b.1 ≡ true) ⊎ (ltb a.1 b.1 ≡ false) → ⊥
            pick (inl t) = no (level u (ltb-true t))
            pick (inr t) =
                let w : a.1 ≡ b.1 = let k : b.1 ≤ a.1 = ltb-false t in omega arith in
                let one : same a b ≡ true = rw (u, w, eqb_same b.0, eqb_same b.1) in ff≢tt q one

-- ---- a key with a connection: by the key first

abbrev pub pair_before : Key × ℕ → Key × ℕ → Bool
pair_before p q = before p.0 q.0 || same p.0 q.0 && ltb p.1 q.1

pub data OrderedPair (p q : Key × ℕ) : Type 0 where
  higher : before p.0 q.0 ≡ true → OrderedPair p q
  level : p.0 ≡ q.0 → p.1 < q.1 → OrderedPair p q

pub pair_before-says : (p q : Key × ℕ) → pair_before p q ≡ true → OrderedPair p q
pair_before-says p q e = go (before p.0 q.0) refl (same p.0 q.0) refl (ltb p.1 q.1) refl e
  where
    go : (x : Bool) → before p.0 q.0 ≡ x → (y : Bool) → same p.0 q.0 ≡ y → (z : Bool) → ltb p.1 q.1 ≡ z → (x || y && z) ≡ true → OrderedPair p q
    go true a y b z c h = higher a
    go false a true b true c h = level (same_true p.0 q.0 b) (ltb-true c)
    go false a true b false c h = absurd (ff≢tt refl h)
    go false a false b z c h = absurd (ff≢tt refl h)

pub pair_before-is : (p q : Key × ℕ) → OrderedPair p q → pair_before p q ≡ true
pair_before-is p q (higher h) = ap (λ (x : Bool). x || same p.0 q.0 && ltb p.1 q.1) h
pair_before-is p q (level e h) = go (before p.0 q.0) (same p.0 q.0) (ltb p.1 q.1) (ap (λ (k : Key). same k q.0) e ∙ same-itself q.0) (lt-ltb _ _ h)
  where
    go : (x y z : Bool) → y ≡ true → z ≡ true → (x || y && z) ≡ true
    go true y z a b = refl
    go false true z a b = b
    go false false z a b = absurd (ff≢tt refl a)

pub pair_before-trans : (p q r : Key × ℕ) → pair_before p q ≡ true → pair_before q r ≡ true → pair_before p r ≡ true
pair_before-trans p q r a b = pair_before-is p r (go (pair_before-says p q a) (pair_before-says q r b))
  where
    go : OrderedPair p q → OrderedPair q r → OrderedPair p r
    go (higher h) (higher k) = higher (before-trans p.0 q.0 r.0 h k)
    go (higher h) (level e k) = higher (subst (λ z. before p.0 z ≡ true) e h)
    go (level e h) (higher k) = higher (subst (λ z. before z r.0 ≡ true) (sym e) k)
    go (level e h) (level f k) = level (e ∙ f) (omega arith)

pub pair_before-itself : (p : Key × ℕ) → pair_before p p ≡ false
pair_before-itself p = untrue (pair_before p p) (λ e. no (pair_before-says p p e))
  where
    no : OrderedPair p p → ⊥
    no (higher h) = ff≢tt (before-itself p.0) h
    no (level e h) = omega arith

pub pair_before-total : (p q : Key × ℕ) → pair_before p q ≡ false → same_pair p q ≡ false → pair_before q p ≡ true
pair_before-total p q a b = pair_before-is q p (go (either (same p.0 q.0)) (either (ltb q.1 p.1)) (either (ltb p.1 q.1)))
  where
    no : OrderedPair p q → ⊥
    no o = ff≢tt a (pair_before-is p q o)

    go : (same p.0 q.0 ≡ true) ⊎ (same p.0 q.0 ≡ false) → (ltb q.1 p.1 ≡ true) ⊎ (ltb q.1 p.1 ≡ false)
        → (ltb p.1 q.1 ≡ true) ⊎ (ltb p.1 q.1 ≡ false) → OrderedPair q p
    go (inr e) y z = higher (before-total p.0 q.0 (or-false-left (before p.0 q.0) (same p.0 q.0 && ltb p.1 q.1) a) e)
    go (inl e) (inl y) z = level (sym (same_true p.0 q.0 e)) (ltb-true y)
    go (inl e) (inr y) (inl z) = absurd (no (level (same_true p.0 q.0 e) (ltb-true z)))
    go (inl e) (inr y) (inr z) =
        let u : p.1 ≤ q.1 = ltb-false y in
        let v : q.1 ≤ p.1 = ltb-false z in
        let n : p.1 ≡ q.1 = omega arith in
        absurd (ff≢tt b (ap (λ (x : Bool). x && eqb p.1 q.1) e ∙ ap (λ (x : ℕ). eqb x q.1) n ∙ eqb_same q.1))

-- a key before that of a pair is before those of all pairs behind it
pub before-climbs : (k : Key) (p q : Key × ℕ) → before k p.0 ≡ true → pair_before p q ≡ true → before k q.0 ≡ true
before-climbs k p q h e = go (pair_before-says p q e)
  where
    go : OrderedPair p q → before k q.0 ≡ true
    go (higher l) = before-trans k p.0 q.0 h l
    go (level l m) = subst (λ (x : Key). before k x ≡ true) l h
