-- Laws of tests: what a Bool that a definition tests says, and proofs by the branches that it picks.
use Rattle.std.specs.Prelude.{Option, None, Some}
use mathlib.Core.Path.{◌≡◌, refl, sym, subst}
use mathlib.Core.Logic.{◌≢◌, ◌⊎◌, inl, inr}
use mathlib.Core.Bool.{Bool, true, false, not, ◌&&◌, ◌||◌, cond}
use Prim.Native.Nat.{ℕ, ◌≤◌, ◌<◌}
use native.Mathlib.Omega.{arith}
use lib.Dec.{T, leb, ltb, eqb, leb→le, nleb→lt, ltb→lt, nltb→le, eqb→eq, eqb_refl}
use Rattle.rules.specs.Lists.{maybe}
use Rattle.rules.specs.Quantities.{stamped, within}

pub T_of : {b : Bool} → b ≡ true → T b
T_of e = subst T (sym e) tt

pub n_t-of : {b : Bool} → b ≡ false → T (not b)
n_t-of e = subst (λ b. T (not b)) (sym e) tt

pub of_T : (b : Bool) → T b → b ≡ true
of_T true t = refl
of_T false t = absurd t

pub ff≢tt : {b : Bool} → b ≡ false → b ≡ true → ⊥
ff≢tt p q = let z : ◌≡◌ {A = ℕ} 0 1 = cc in omega arith

pub leb-true : {m n : ℕ} → leb m n ≡ true → m ≤ n
leb-true {m} {n} e = leb→le m n (T_of e)

pub leb-false : {m n : ℕ} → leb m n ≡ false → n < m
leb-false {m} {n} e = nleb→lt m n (n_t-of e)

pub ltb-true : {m n : ℕ} → ltb m n ≡ true → m < n
ltb-true {m} {n} e = ltb→lt m n (T_of e)

pub ltb-false : {m n : ℕ} → ltb m n ≡ false → n ≤ m
ltb-false {m} {n} e = nltb→le m n (n_t-of e)

pub eqb-true : {m n : ℕ} → eqb m n ≡ true → m ≡ n
eqb-true {m} {n} e = eqb→eq m n (T_of e)

pub eqb_same : (n : ℕ) → eqb n n ≡ true
eqb_same n = of_T (eqb n n) (eqb_refl n)

pub eqb-false : {m n : ℕ} → eqb m n ≡ false → m ≢ n
eqb-false {m} {n} e q = ff≢tt e (subst (λ x. eqb m x ≡ true) q (eqb_same m))

pub either : (b : Bool) → (b ≡ true) ⊎ (b ≡ false)
either true = inl refl
either false = inr refl

pub eqb-other : {m n : ℕ} → m ≢ n → eqb m n ≡ false
eqb-other {m} {n} h = go (either (eqb m n))
  where
    go : (eqb m n ≡ true) ⊎ (eqb m n ≡ false) → eqb m n ≡ false
    go (inl e) = absurd (h (eqb-true e))
    go (inr e) = e

-- a statement about a branch, by the branches
pub by_cond : {A : Type 0} (P : A → Type 0) (b : Bool) {x y : A} → (b ≡ true → P x) → (b ≡ false → P y) → P (cond b x y)
by_cond P true f g = f refl
by_cond P false f g = g refl

pub by-maybe : {A B : Type 0} (P : B → Type 0) (o : Option A) {b : B} {f : A → B} → P b → ((a : A) → o ≡ Some a → P (f a)) → P (maybe b f o)
by-maybe P None x g = x
by-maybe P (Some a) x g = g a refl

pub and-true-left : (a b : Bool) → (a && b) ≡ true → a ≡ true
and-true-left true b e = refl
and-true-left false b e = e

pub and-true-right : (a b : Bool) → (a && b) ≡ true → b ≡ true
and-true-right true b e = e
and-true-right false b e = absurd (ff≢tt refl e)

pub within_both : (a b n : ℕ) → within a b n ≡ true → (a ≤ n) × (n ≤ b)
within_both a b n e = (leb-true (and-true-left (leb a n) (leb n b) e), leb-true (and-true-right (leb a n) (leb n b) e))

pub by-stamped : {B : Type 0} (P : B → Type 0) (o : Option ℕ) {b : B} {f : ℕ → B} → P b → ((t : ℕ) → P (f t)) → P (stamped b f o)
by-stamped P None x g = x
by-stamped P (Some t) x g = g t

pub or-false-left : (a b : Bool) → (a || b) ≡ false → a ≡ false
or-false-left true b e = e
or-false-left false b e = refl

pub or-false-right : (a b : Bool) → (a || b) ≡ false → b ≡ false
or-false-right true b e = absurd (ff≢tt e refl)
or-false-right false b e = e

pub or-true : (a : Bool) → (a || true) ≡ true
or-true true = refl
or-true false = refl

pub or-false : (a : Bool) → (a || false) ≡ a
or-false true = refl
or-false false = refl

-- s goes over from what is there to what is to come
pub or-moved : (s a g : Bool) → ((s || a) || g) ≡ (a || (s || g))
or-moved true a g = sym (or-true a)
or-moved false a g = refl

pub none≢some : {A : Type 0} {a : A} → ◌≡◌ {A = Option A} None (Some a) → ⊥
none≢some e = let z : ◌≡◌ {A = ℕ} 0 1 = cc in omega arith

-- the converses: a fact makes its test true or false
pub lt-ltb : (m n : ℕ) → m < n → ltb m n ≡ true
lt-ltb m n h = go (either (ltb m n))
  where
    go : (ltb m n ≡ true) ⊎ (ltb m n ≡ false) → ltb m n ≡ true
    go (inl e) = e
    go (inr e) = absurd (let k : n ≤ m = ltb-false e in omega arith)

pub le-ltb : (m n : ℕ) → n ≤ m → ltb m n ≡ false
le-ltb m n h = go (either (ltb m n))
  where
    go : (ltb m n ≡ true) ⊎ (ltb m n ≡ false) → ltb m n ≡ false
    go (inl e) = absurd (let k : m < n = ltb-true e in omega arith)
    go (inr e) = e

pub lt-leb : (m n : ℕ) → n < m → leb m n ≡ false
lt-leb m n h = go (either (leb m n))
  where
    go : (leb m n ≡ true) ⊎ (leb m n ≡ false) → leb m n ≡ false
    go (inl e) = absurd (let k : m ≤ n = leb-true e in omega arith)
    go (inr e) = e

pub untrue : (b : Bool) → (b ≡ true → ⊥) → b ≡ false
untrue true h = absurd (h refl)
untrue false h = refl
