-- Laws of fits, of the places that are left, and of which of them count, over lists of keys alone.
use Rattle.std.specs.Prelude.{Option, None, Some}
use mathlib.Core.Path.{◌≡◌, refl, ap, sym, ◌∙◌}
use mathlib.Core.List.{List, [], ◌∷◌, ◌++◌, map}
use mathlib.Core.Bool.{Bool, true, false, ◌&&◌, ◌||◌}
use Prim.Native.Nat.{ℕ, suc, ◌+◌, ◌-◌, ◌≤◌, ◌<◌}
use native.Mathlib.Nat.{sub-zero, zero-add}
use native.Mathlib.Numerals.{add-one}
use native.Mathlib.Omega.{arith}
use lib.ListN.{length, drop}
use lib.Dec.{leb, eqb}
use borrow.Author.Tests.{eqb-true, eqb-false, eq-eqb, ne_eqb}
use Rattle.rules.specs.Lists.{keep, nil, maybe, count}
use Rattle.rules.specs.Quantities.{Key, same, align_run}
use Rattle.rules.proofs.Tests.{by_cond}
use Rattle.rules.specs.Place.{Place, fits, places, counts, alignment}

eqb-turned : (m n : ℕ) → eqb m n ≡ eqb n m
eqb-turned m n = go (eqb m n) refl
  where
    go : (b : Bool) → eqb m n ≡ b → eqb m n ≡ eqb n m
    go true e = e ∙ sym (eq-eqb n m (sym (eqb-true m n e)))
    go false e = e ∙ sym (ne_eqb n m (λ q. eqb-false m n e (sym q)))

-- keys by their words
module _ (a b : Key) where
  pub same-turned : same a b ≡ same b a
  same-turned = rw (eqb-turned a.0 b.0, eqb-turned a.1 b.1)

  pub differ-0 : (a.0 ≡ b.0 → ⊥) → same a b ≡ false
  differ-0 h = rw (ne_eqb _ _ h)

-- m more matches, where nothing differs
abbrev pub more : ℕ → Option ℕ → Option ℕ
more m o = maybe None (λ n. Some (m + n)) o

pub more-none : (o : Option ℕ) → more 0 o ≡ o
more-none None = refl
more-none (Some n) = rw zero-add

one_more : (m : ℕ) (o : Option ℕ) → more m (maybe None (λ n. Some (suc n)) o) ≡ more (m + 1) o
one_more m None = refl
one_more m (Some n) = let e : m + suc n ≡ (m + 1) + n = omega arith in ap Some e

module _ (x y : Key) (xs ys : List Key) where
  pub fits-same : (m : ℕ) → same x y ≡ true → more m (fits (x ∷ xs) (y ∷ ys)) ≡ more (m + 1) (fits xs ys)
  unfolding fits
  fits-same m e = rw e (one_more m (fits xs ys))

  pub fits-differ : same x y ≡ false → fits (x ∷ xs) (y ∷ ys) ≡ None
  unfolding fits
  fits-differ e = rw e

pub fits-nil : (ys : List Key) → fits [] ys ≡ Some 0
unfolding fits
fits-nil ys = refl

pub fits-log-end : (xs : List Key) → fits xs [] ≡ Some 0
unfolding fits
fits-log-end [] = refl
fits-log-end (x ∷ xs) = refl

-- whether a place counts, by its matches
abbrev pub enough : Bool → ℕ → Bool → Bool → Bool
enough quiet n end all = leb align_run n || quiet && end && all

module _ (quiet : Bool) (hs ks : List Key) (p : Place) where
  pub counts-none : fits (drop p.0 hs) (drop p.1 ks) ≡ None → counts quiet hs ks p ≡ false
  unfolding counts
  counts-none e = rw e

  pub counts_some : (n : ℕ) → fits (drop p.0 hs) (drop p.1 ks) ≡ Some n
      → counts quiet hs ks p ≡ enough quiet n (eqb (p.1 + n) (length ks)) (eqb (p.0 + n) (length hs))
  unfolding counts
  counts_some n e = rw e

-- the places that are left: (0, i) from the q-th entry on, then (j, 0) from the j-th held event on
abbrev pub left : ℕ → ℕ → ℕ → ℕ → List Place
left h k q j = map (λ i. (0, i)) (count q (k - q)) ++ map (λ i. (i, 0)) (count j (h - j))

pub left-all : (hs ks : List Key) → places hs ks ≡ left (length hs) (length ks) 0 1
left-all hs ks = rw (sub-zero (length ks))

module _ (h k q j : ℕ) where
  pub left-first : q < k → left h k q j ≡ (0, q) ∷ left h k (q + 1) j
  left-first l = let e : k - q ≡ suc (k - (q + 1)) = omega arith in rw (e, add-one)

  pub left-later : k ≤ q → j < h → left h k q j ≡ (j, 0) ∷ left h k q (j + 1)
  left-later l m =
      let e : k - q ≡ 0 = omega arith in
      let f : h - j ≡ suc (h - (j + 1)) = omega arith in rw (e, f, add-one)

  pub left-none : k ≤ q → h ≤ j → left h k q j ≡ []
  left-none l m =
      let e : k - q ≡ 0 = omega arith in
      let f : h - j ≡ 0 = omega arith in rw (e, f)

-- the place that counted so far
abbrev pub seen : Option Place → List Place
seen None = []
seen (Some p) = p ∷ []

-- the answer, where the search ends, and where a second place counts
module _ (quiet : Bool) (hs ks : List Key) where
  pub all_seen : (o : Option Place) → nil hs ≡ false → nil ks ≡ false → keep (counts quiet hs ks) (places hs ks) ≡ seen o ++ [] → alignment quiet hs ks ≡ o
  unfolding alignment
  all_seen None h k all = rw (h, k, all)
  all_seen (Some p) h k all = rw (h, k, all)

  pub two-seen : (p b : Place) (r : List Place) → keep (counts quiet hs ks) (places hs ks) ≡ p ∷ b ∷ r → alignment quiet hs ks ≡ None
  unfolding alignment
  two-seen p b r all = by_cond (λ o. o ≡ None) (nil hs || nil ks) (λ t. refl) (λ t. rw all)

pub none-held : (quiet : Bool) (ks : List Key) → alignment quiet [] ks ≡ None
unfolding alignment
none-held quiet ks = refl

pub none-logged : (quiet : Bool) (hs : List Key) → alignment quiet hs [] ≡ None
unfolding alignment
none-logged quiet [] = refl
none-logged quiet (h ∷ hs) = refl
