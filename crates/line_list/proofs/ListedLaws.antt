-- Lists by place, and where a connection's line stands among lines that rise.
use mathlib.Core.Path.{◌≡◌, refl, ap, ◌∙◌}
use mathlib.Core.List.{List, [], ◌∷◌}
use mathlib.Core.Bool.{Bool, true, false, not, ◌||◌, cond}
use Prim.Native.Nat.{ℕ, zero, suc, ◌≤◌, ◌<◌, zero-le, suc-le-suc}
use native.Mathlib.Nat.{not-suc-le-zero, le_of_suc-le-suc}
use native.Mathlib.Omega.{arith}
use lib.Dec.{ltb, leb, eqb}
use lib.ListN.{length, get_or, set}
use borrow.Author.Tests.{lt-leb}
use Rattle.rules.specs.Lists.{keep, any, index, Each, Rising}
use Rattle.rules.specs.Lines.{Connection, nobody, waiting, subscribed}
use Rattle.rules.proofs.Tests.{leb-true, leb-false, eqb-true, eqb_same, eqb-other, lt-ltb, le-ltb}
use Rattle.rules.proofs.ListLaws.{each-imp}
use Rattle.rules.proofs.Invariant.{Sorted}
use Rattle.store.proofs.ConnLaws.{of_conn}
use Rattle.store.specs.Areas.{without, inserted}

module _ {A : Type 0} where
  pub without-none : (i : ℕ) (l : List A) → length l ≤ i → without i l ≡ l
  unfolding without
  without-none i [] h = refl
  without-none zero (x ∷ xs) h = absurd (not-suc-le-zero h)
  without-none (suc i) (x ∷ xs) h = ap {B = List A} (λ r. x ∷ r) (without-none i xs (le_of_suc-le-suc h))

  pub index-le : (t : A → Bool) (l : List A) → index t l ≤ length l
  index-le t [] = omega arith
  index-le t (x ∷ xs) = go (t x) (index-le t xs)
    where
      go : (b : Bool) → index t xs ≤ length xs → cond b zero (suc (index t xs)) ≤ suc (length xs)
      go true h = omega arith
      go false h = omega arith

  keep_all : (t : A → Bool) (l : List A) → Each (λ x. t x ≡ true) l → keep t l ≡ l
  keep_all t [] h = refl
  keep_all t (x ∷ xs) h = rw (h.0, keep_all t xs h.1)

  any_none : (t : A → Bool) (l : List A) → Each (λ x. t x ≡ false) l → any t l ≡ false
  any_none t [] h = refl
  any_none t (x ∷ xs) h = rw (h.0, any_none t xs h.1)

-- all but the connection's line
pub keep-without : (c : ℕ) (ls : List Connection) → Sorted ls → keep (λ s. not (eqb s.conn c)) ls ≡ without (index (of_conn c) ls) ls
unfolding without Rising
keep-without c [] o = refl
keep-without c (x ∷ xs) o = go (eqb x.conn c) refl (keep-without c xs o.1)
  where
    go : (b : Bool) → eqb x.conn c ≡ b → keep (λ s. not (eqb s.conn c)) xs ≡ without (index (of_conn c) xs) xs
        → cond (not b) (x ∷ keep (λ s. not (eqb s.conn c)) xs) (keep (λ s. not (eqb s.conn c)) xs) ≡ without (cond b zero (suc (index (of_conn c) xs))) (x ∷ xs)
    go true e r =
        let q : x.conn ≡ c = eqb-true e in
        keep_all (λ s. not (eqb s.conn c)) xs
        (each-imp (λ y. x.conn < y.conn) (λ y. not (eqb y.conn c) ≡ true) (λ y l. ap not (eqb-other {m = y.conn} {n = c} (λ z. omega arith))) xs o.0)
    go false e r = ap {B = List Connection} (λ l. x ∷ l) r

-- the place by connection: the first that is not lower
abbrev pub not_lower : ℕ → Connection → Bool
not_lower c s = leb c s.conn

pub lower : (c r n : ℕ) → r ≡ n → r < c → leb c n ≡ false
lower c r n e h = lt-leb c n (omega arith)

-- the line there is the connection's
pub subscribed-there : (c limit t : ℕ) (ls : List Connection) → index (not_lower c) ls < length ls → (get_or ls (index (not_lower c) ls) nobody).conn ≡ c
    → subscribed c limit t ls ≡ set ls (index (not_lower c) ls) (waiting c limit t)
unfolding subscribed
subscribed-there c limit t [] h e = absurd (not-suc-le-zero h)
subscribed-there c limit t (x ∷ xs) h e = go (leb c x.conn) refl (subscribed-there c limit t xs) h e
  where
    go : (b : Bool) → leb c x.conn ≡ b
        → (index (not_lower c) xs < length xs → (get_or xs (index (not_lower c) xs) nobody).conn ≡ c → subscribed c limit t xs ≡ set xs (index (not_lower c) xs) (waiting c limit t))
        → cond b zero (suc (index (not_lower c) xs)) < suc (length xs)
        → (get_or (x ∷ xs) (cond b zero (suc (index (not_lower c) xs))) nobody).conn ≡ c
        → cond (ltb c x.conn) (waiting c limit t ∷ x ∷ xs) (cond (eqb x.conn c) (waiting c limit t ∷ xs) (x ∷ subscribed c limit t xs))
        ≡ set (x ∷ xs) (cond b zero (suc (index (not_lower c) xs))) (waiting c limit t)
    go true q r h e = let z : eqb x.conn c ≡ true = ap (λ (n : ℕ). eqb n c) e ∙ eqb_same c in rw (le-ltb c x.conn (omega arith), z)
    go false q r h e =
        let l : x.conn < c = leb-false q in
        rw (le-ltb c x.conn (omega arith), eqb-other {m = x.conn} {n = c} (λ z. omega arith), r (le_of_suc-le-suc h) e)

-- the connection has no line there
abbrev pub Absent : ℕ → List Connection → Type 0
Absent c ls = index (not_lower c) ls < length ls → (get_or ls (index (not_lower c) ls) nobody).conn ≡ c → ⊥

pub subscribed-new : (c limit t : ℕ) (ls : List Connection) → Absent c ls → subscribed c limit t ls ≡ inserted (index (not_lower c) ls) (waiting c limit t) ls
unfolding subscribed inserted
subscribed-new c limit t [] h = refl
subscribed-new c limit t (x ∷ xs) h = go (leb c x.conn) refl (subscribed-new c limit t xs) h
  where
    go : (b : Bool) → leb c x.conn ≡ b
        → (Absent c xs → subscribed c limit t xs ≡ inserted (index (not_lower c) xs) (waiting c limit t) xs)
        → (cond b zero (suc (index (not_lower c) xs)) < suc (length xs) → (get_or (x ∷ xs) (cond b zero (suc (index (not_lower c) xs))) nobody).conn ≡ c → ⊥)
        → cond (ltb c x.conn) (waiting c limit t ∷ x ∷ xs) (cond (eqb x.conn c) (waiting c limit t ∷ xs) (x ∷ subscribed c limit t xs))
        ≡ inserted (cond b zero (suc (index (not_lower c) xs))) (waiting c limit t) (x ∷ xs)
    go true q r h =
        let l : c ≤ x.conn = leb-true q in
        let n : x.conn ≡ c → ⊥ = h (suc-le-suc zero-le) in
        rw (lt-ltb c x.conn (omega arith))
    go false q r h =
        let l : x.conn < c = leb-false q in
        rw (le-ltb c x.conn (omega arith), eqb-other {m = x.conn} {n = c} (λ z. omega arith), r (λ k. h (suc-le-suc k)))

pub absent_none : (c : ℕ) (ls : List Connection) → Sorted ls → Absent c ls → any (of_conn c) ls ≡ false
unfolding Rising
absent_none c [] o h = refl
absent_none c (x ∷ xs) o h = go (leb c x.conn) refl (absent_none c xs o.1) h
  where
    go : (b : Bool) → leb c x.conn ≡ b
        → (Absent c xs → any (of_conn c) xs ≡ false)
        → (cond b zero (suc (index (not_lower c) xs)) < suc (length xs) → (get_or (x ∷ xs) (cond b zero (suc (index (not_lower c) xs))) nobody).conn ≡ c → ⊥)
        → (eqb x.conn c || any (of_conn c) xs) ≡ false
    go true q r h =
        let l : c ≤ x.conn = leb-true q in
        let n : x.conn ≡ c → ⊥ = h (suc-le-suc zero-le) in
        rw (
          eqb-other n,
          any_none (of_conn c) xs (each-imp (λ y. x.conn < y.conn) (λ y. eqb y.conn c ≡ false) (λ y k. eqb-other {m = y.conn} {n = c} (λ z. omega arith)) xs o.0),
        )
    go false q r h =
        let l : x.conn < c = leb-false q in
        rw (eqb-other {m = x.conn} {n = c} (λ z. omega arith), r (λ k. h (suc-le-suc k)))
