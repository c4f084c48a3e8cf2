-- Orders of the same calls: what each connection's own calls settle.
use mathlib.Core.Path.{◌≡◌, refl, sym, ◌∙◌, ap, subst}
use mathlib.Core.List.{List, [], ◌∷◌, ◌++◌, map}
use mathlib.Core.Bool.{Bool, true, false, ◌&&◌, ◌||◌, cond}
use Prim.Native.Nat.{ℕ, suc, ◌≤◌, ◌<◌}
use native.Mathlib.Omega.{arith}
use lib.Dec.{eqb}
use Rattle.rules.specs.declared.Applied.{Applied}
use Rattle.rules.specs.Lists.{Each, any, keep}
use Rattle.rules.specs.Quantities.{Key, book_out, same}
use Rattle.rules.specs.Refusals.{BookEvent, Call, Drop, Print, Promote, Reset, Snapshot, Subscribe, Tick}
use Rattle.rules.specs.Demand.{caller, event_key, events_of, is_print, own, own_book, own_books, own_print, own_prints, prints_by, timeless}
use Rattle.rules.proofs.Tests.{by_cond, eqb_same, ff≢tt}
use Rattle.rules.proofs.ListLaws.{each-imp}
use Rattle.rules.proofs.Order.{same-itself, same_pair, same_pair-itself, same_pair-true}
use Rattle.rules.proofs.Tables.{cond_same}
use Rattle.rules.proofs.Going.{a_key, a_pair, print_keys, print_pairs}

-- ---- what a connection's own calls settle

own-cons : (c : ℕ) (x : Call) (xs : List Call) → own c (x ∷ xs) ≡ map timeless (cond (eqb (caller x) c) (x ∷ []) []) ++ own c xs
unfolding own
own-cons c x xs = go (eqb (caller x) c)
  where
    go : (b : Bool) → map timeless (cond b (x ∷ keep (λ y. eqb (caller y) c) xs) (keep (λ y. eqb (caller y) c) xs)) ≡ map timeless (cond b (x ∷ []) []) ++ map timeless (keep (λ y. eqb (caller y) c) xs)
    go true = refl
    go false = refl

-- what a connection's own calls alone make, whatever their time
module _ {B : Type 0} (c : ℕ) (f : List Call → B) (g : Call → B → B) (made : (x : Call) (xs : List Call) → f (x ∷ xs) ≡ g x (f xs))
    (once : (x : Call) (b : B) → g x b ≡ cond (eqb (caller x) c) (g (timeless x) b) b) where
  own_same : (xs : List Call) → f (own c xs) ≡ f xs
  unfolding own
  own_same [] = refl
  own_same (x ∷ xs) = ap f (own-cons c x xs) ∙ go (eqb (caller x) c) (own_same xs) ∙ sym (once x (f xs)) ∙ sym (made x xs)
    where
      go : (b : Bool) → f (own c xs) ≡ f xs → f (map timeless (cond b (x ∷ []) []) ++ own c xs) ≡ cond b (g (timeless x) (f xs)) (f xs)
      go true h = made (timeless x) (own c xs) ∙ ap (g (timeless x)) h
      go false h = h

cond-twice : {A : Type 0} (b : Bool) (x y : A) → cond b x y ≡ cond b (cond b x y) y
cond-twice true x y = refl
cond-twice false x y = refl

event-once : (c : ℕ) (x : Call) (l : List Key) → event_key c x l ≡ cond (eqb (caller x) c) (event_key c (timeless x) l) l
event-once c (BookEvent d j msg now room) l = cond-twice (eqb d c) (j ∷ l) l
event-once c (Print d j msg now room) l = sym (cond_same (eqb d c) l)
event-once c (Subscribe d limit now) l = sym (cond_same (eqb d c) l)
event-once c (Snapshot d i msg now room) l = sym (cond_same (eqb d c) l)
event-once c (Drop d now room) l = sym (cond_same (eqb d c) l)
event-once c (Promote now room) l = sym (cond_same (eqb 0 c) l)
event-once c (Reset now) l = sym (cond_same (eqb 0 c) l)
event-once c (Tick answers now room reports) l = sym (cond_same (eqb 0 c) l)

print-once : (k : Key) (c : ℕ) (x : Call) (n : ℕ) → is_print k c x n ≡ cond (eqb (caller x) c) (is_print k c (timeless x) n) n
print-once k c (BookEvent d j msg now room) n = sym (cond_same (eqb d c) n)
print-once k c (Print d j msg now room) n = go (same j k) (eqb d c)
  where
    go : (s b : Bool) → cond (s && b) (suc n) n ≡ cond b (cond (s && b) (suc n) n) n
    go true true = refl
    go true false = refl
    go false true = refl
    go false false = refl
print-once k c (Subscribe d limit now) n = sym (cond_same (eqb d c) n)
print-once k c (Snapshot d i msg now room) n = sym (cond_same (eqb d c) n)
print-once k c (Drop d now room) n = sym (cond_same (eqb d c) n)
print-once k c (Promote now room) n = sym (cond_same (eqb 0 c) n)
print-once k c (Reset now) n = sym (cond_same (eqb 0 c) n)
print-once k c (Tick answers now room reports) n = sym (cond_same (eqb 0 c) n)

book-once : (c : ℕ) (x : Call) (l : ℕ → List Applied)
    → ◌≡◌ {A = ℕ → List Applied} (λ n. own_book c n x l) (cond (eqb (caller x) c) (λ n. own_book c n (timeless x) l) l)
book-once c (BookEvent d j msg now room) l = go (eqb d c)
  where
    go : (b : Bool) → ◌≡◌ {A = ℕ → List Applied} (λ n. cond b (book_out c n j msg ∷ l (suc n)) (l n))
        (cond b (λ n. cond b (book_out c n j msg ∷ l (suc n)) (l n)) l)
    go true = refl
    go false = refl
book-once c (Print d j msg now room) l = sym (cond_same (eqb d c) l)
book-once c (Subscribe d limit now) l = sym (cond_same (eqb d c) l)
book-once c (Snapshot d i msg now room) l = sym (cond_same (eqb d c) l)
book-once c (Drop d now room) l = sym (cond_same (eqb d c) l)
book-once c (Promote now room) l = sym (cond_same (eqb 0 c) l)
book-once c (Reset now) l = sym (cond_same (eqb 0 c) l)
book-once c (Tick answers now room reports) l = sym (cond_same (eqb 0 c) l)

copy-once : (c : ℕ) (x : Call) (l : List (Key × ℕ)) → own_print c x l ≡ cond (eqb (caller x) c) (own_print c (timeless x) l) l
copy-once c (BookEvent d j msg now room) l = sym (cond_same (eqb d c) l)
copy-once c (Print d j msg now room) l = cond-twice (eqb d c) ((j, msg) ∷ l) l
copy-once c (Subscribe d limit now) l = sym (cond_same (eqb d c) l)
copy-once c (Snapshot d i msg now room) l = sym (cond_same (eqb d c) l)
copy-once c (Drop d now room) l = sym (cond_same (eqb d c) l)
copy-once c (Promote now room) l = sym (cond_same (eqb 0 c) l)
copy-once c (Reset now) l = sym (cond_same (eqb 0 c) l)
copy-once c (Tick answers now room reports) l = sym (cond_same (eqb 0 c) l)

pub own-events : (c : ℕ) (xs : List Call) → events_of c (own c xs) ≡ events_of c xs
unfolding events_of
own-events c xs = own_same c (events_of c) (event_key c) (λ x ys. refl) (event-once c) xs

pub own-prints : (k : Key) (c : ℕ) (xs : List Call) → prints_by k c (own c xs) ≡ prints_by k c xs
unfolding prints_by
own-prints k c xs = own_same c (prints_by k c) (is_print k c) (λ x ys. refl) (print-once k c) xs

pub own-books : (c n : ℕ) (xs : List Call) → own_books c n (own c xs) ≡ own_books c n xs
unfolding own_books
own-books c n xs = ap (λ (l : ℕ → List Applied). l n) (own_same c (λ ys j. own_books c j ys) (λ x l j. own_book c j x l) (λ x ys. refl) (book-once c) xs)

pub own-copies : (c : ℕ) (xs : List Call) → own_prints c (own c xs) ≡ own_prints c xs
unfolding own_prints
own-copies c xs = own_same c (own_prints c) (own_print c) (λ x ys. refl) (copy-once c) xs

-- what holds of each call whatever its time
module _ (Q : Call → Type 0) (drop-time : (x : Call) → Q x → Q (timeless x)) (any-time : (x : Call) → Q (timeless x) → Q x) where
  each-own : (c : ℕ) (xs : List Call) → Each Q xs → Each Q (own c xs)
  unfolding own
  each-own c [] h = tt
  each-own c (x ∷ xs) h = by_cond (λ l. Each Q (map timeless l)) (eqb (caller x) c) (λ e. (drop-time x h.0, each-own c xs h.1)) (λ e. each-own c xs h.1)

  own-each : (xs : List Call) → ((c : ℕ) → Each Q (own c xs)) → Each Q xs
  own-each [] h = tt
  own-each (x ∷ xs) h = (first, own-each xs rest)
    where
      rest : (c : ℕ) → Each Q (own c xs)
      rest c = go (eqb (caller x) c) (subst (Each Q) (own-cons c x xs) (h c))
        where
          go : (b : Bool) → Each Q (map timeless (cond b (x ∷ []) []) ++ own c xs) → Each Q (own c xs)
          go true t = t.1
          go false t = t

      first : Q x
      first = go (eqb (caller x) (caller x)) (eqb_same (caller x)) (subst (Each Q) (own-cons (caller x) x xs) (h (caller x)))
        where
          go : (b : Bool) → b ≡ true → Each Q (map timeless (cond b (x ∷ []) []) ++ own (caller x) xs) → Q x
          go true e t = any-time x t.0
          go false e t = absurd (ff≢tt refl e)

  pub each-order : (xs ys : List Call) → ((c : ℕ) → own c ys ≡ own c xs) → Each Q xs → Each Q ys
  each-order xs ys o h = own-each ys (λ c. subst (Each Q) (sym (o c)) (each-own c xs h))

-- ---- what is printed in one order is printed in the other

prints-more : (k : Key) (c : ℕ) (x : Call) (xs : List Call) → prints_by k c xs ≤ prints_by k c (x ∷ xs)
unfolding prints_by
prints-more k c (Print d j msg now room) xs = by_cond (λ (n : ℕ). prints_by k c xs ≤ n) (same j k && eqb d c) (λ e. omega arith) (λ e. omega arith)
prints-more k c (BookEvent d j msg now room) xs = omega arith
prints-more k c (Subscribe d limit now) xs = omega arith
prints-more k c (Snapshot d i msg now room) xs = omega arith
prints-more k c (Drop d now room) xs = omega arith
prints-more k c (Promote now room) xs = omega arith
prints-more k c (Reset now) xs = omega arith
prints-more k c (Tick answers now room reports) xs = omega arith

prints-one : (k : Key) (c msg now room : ℕ) (xs : List Call) → 0 < prints_by k c (Print c k msg now room ∷ xs)
unfolding prints_by
prints-one k c msg now room xs = let e = ap (λ (b : Bool). cond b (suc (prints_by k c xs)) (prints_by k c xs)) (same_pair-itself (k, c)) in omega arith

pub pairs-printed : (xs : List Call) → Each (λ p. 0 < prints_by p.0 p.1 xs) (print_pairs xs)
unfolding print_pairs
pairs-printed [] = tt
pairs-printed (x ∷ xs) = go x (each-imp (λ p. 0 < prints_by p.0 p.1 xs) (λ p. 0 < prints_by p.0 p.1 (x ∷ xs)) (λ p h. let z = prints-more p.0 p.1 x xs in omega arith) (print_pairs xs) (pairs-printed xs))
    (λ k c msg now room e. subst (λ y. 0 < prints_by k c (y ∷ xs)) (sym e) (prints-one k c msg now room xs)) refl
  where
    P : Key × ℕ → Type 0
    P p = 0 < prints_by p.0 p.1 (x ∷ xs)

    go : (y : Call) → Each P (print_pairs xs) → ((k : Key) (c msg now room : ℕ) → x ≡ Print c k msg now room → P (k, c)) → x ≡ y → Each P (a_pair y (print_pairs xs))
    go (Print d j msg now room) h f e = (f j d msg now room e, h)
    go (BookEvent d j msg now room) h f e = h
    go (Subscribe d limit now) h f e = h
    go (Snapshot d i msg now room) h f e = h
    go (Drop d now room) h f e = h
    go (Promote now room) h f e = h
    go (Reset now) h f e = h
    go (Tick answers now room reports) h f e = h

pub keys-printed : (xs : List Call) → Each (λ k. (c : ℕ) × (0 < prints_by k c xs)) (print_keys xs)
unfolding print_keys
keys-printed [] = tt
keys-printed (x ∷ xs) = go x (each-imp (λ k. (c : ℕ) × (0 < prints_by k c xs)) (λ k. (c : ℕ) × (0 < prints_by k c (x ∷ xs))) (λ k h. (h.0, let z = prints-more k h.0 x xs in let y = h.1 in omega arith)) (print_keys xs) (keys-printed xs))
    (λ k c msg now room e. (c, subst (λ y. 0 < prints_by k c (y ∷ xs)) (sym e) (prints-one k c msg now room xs))) refl
  where
    P : Key → Type 0
    P k = (c : ℕ) × (0 < prints_by k c (x ∷ xs))

    go : (y : Call) → Each P (print_keys xs) → ((k : Key) (c msg now room : ℕ) → x ≡ Print c k msg now room → P k) → x ≡ y → Each P (a_key y (print_keys xs))
    go (Print d j msg now room) h f e = (f j d msg now room e, h)
    go (BookEvent d j msg now room) h f e = h
    go (Subscribe d limit now) h f e = h
    go (Snapshot d i msg now room) h f e = h
    go (Drop d now room) h f e = h
    go (Promote now room) h f e = h
    go (Reset now) h f e = h
    go (Tick answers now room reports) h f e = h

pub printed-in : (k : Key) (c : ℕ) (xs : List Call) → 0 < prints_by k c xs
    → (any (λ q. same_pair (k, c) q) (print_pairs xs) ≡ true) × (any (λ j. same k j) (print_keys xs) ≡ true)
unfolding prints_by print_pairs print_keys
printed-in k c [] h = absurd (omega arith)
printed-in k c (Print d j msg now room ∷ xs) h = go (same j k && eqb d c) refl h (λ t. printed-in k c xs t)
  where
    or_right : (a b : Bool) → b ≡ true → (a || b) ≡ true
    or_right true b e = refl
    or_right false b e = e

    or_left : (a b : Bool) → a ≡ true → (a || b) ≡ true
    or_left true b e = refl
    or_left false b e = absurd (ff≢tt refl e)

    go : (b : Bool) → same_pair (j, d) (k, c) ≡ b → 0 < cond b (suc (prints_by k c xs)) (prints_by k c xs)
        → (0 < prints_by k c xs → (any (λ q. same_pair (k, c) q) (print_pairs xs) ≡ true) × (any (λ i. same k i) (print_keys xs) ≡ true))
        → ((same_pair (k, c) (j, d) || any (λ q. same_pair (k, c) q) (print_pairs xs)) ≡ true) × ((same k j || any (λ i. same k i) (print_keys xs)) ≡ true)
    go true e t ih =
        let p : ◌≡◌ {A = Key × ℕ} (j, d) (k, c) = same_pair-true (j, d) (k, c) e in (
          or_left (same_pair (k, c) (j, d)) (any (λ q. same_pair (k, c) q) (print_pairs xs)) (subst (λ z. same_pair (k, c) z ≡ true) (sym p) (same_pair-itself (k, c))),
          or_left (same k j) (any (λ i. same k i) (print_keys xs)) (subst (λ z. same k z.0 ≡ true) (sym p) (same-itself k)),
        )
    go false e t ih = let r = ih t in
        (or_right (same_pair (k, c) (j, d)) (any (λ q. same_pair (k, c) q) (print_pairs xs)) r.0, or_right (same k j) (any (λ i. same k i) (print_keys xs)) r.1)
printed-in k c (BookEvent d j msg now room ∷ xs) h = printed-in k c xs h
printed-in k c (Subscribe d limit now ∷ xs) h = printed-in k c xs h
printed-in k c (Snapshot d i msg now room ∷ xs) h = printed-in k c xs h
printed-in k c (Drop d now room ∷ xs) h = printed-in k c xs h
printed-in k c (Promote now room ∷ xs) h = printed-in k c xs h
printed-in k c (Reset now ∷ xs) h = printed-in k c xs h
printed-in k c (Tick answers now room reports ∷ xs) h = printed-in k c xs h
