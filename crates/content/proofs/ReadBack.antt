-- A reader of canonical bytes, and that it reads a clean value back.
use mathlib.Core.Path.{◌≡◌, refl}
use mathlib.Core.Bool.{true, false, cond}
use mathlib.Core.List.{List, [], ◌∷◌, ◌++◌, append_assoc}
use Prim.Native.Nat.{ℕ, zero, suc, ◌+◌, ◌*◌, ◌/◌, ◌^◌, ◌≤◌, ◌<◌}
use native.Mathlib.Nat.{div-add-mod', div-lt_iff_lt-mul, pow-suc}
use native.Mathlib.Omega.{arith}
use borrow.Author.Tests.{ne_eqb}
use lib.Dec.{eqb}
use lib.ListN.{length, drop, get_or}
use Rattle.json_text.specs.Canonical.{little_endian, items, members, canonical, canonical_items, canonical_members}
use Rattle.json_text.specs.Work.{up_to_ff}
use Rattle.json_text.specs.Values.{Value, null, boolean, number, string, array, object}
use Rattle.json_text.specs.Values.{Items, no_items, item, Members, no_members, member}
use Rattle.content.proofs.Clean.{Clean, CleanItems, CleanMembers}
use Rattle.content.proofs.Fits.{array-length, object-length, item-length, member-length}
use Rattle.content.proofs.NumberTexts.{Below}

-- ---- texts: the bytes in front of the first FF, and those behind it
past_ff : List ℕ → List ℕ
past_ff [] = []
past_ff (b ∷ s) = cond (eqb b 0xFF) s (past_ff s)

pub ff-ends : (x r : List ℕ) → Below x → up_to_ff (x ++ 0xFF ∷ r) ≡ x
unfolding up_to_ff
ff-ends [] r h = refl
ff-ends (b ∷ x) r h = rw (ne_eqb b 0xFF (λ e. omega arith), ff-ends x r h.1)

ff-past : (x r : List ℕ) → Below x → past_ff (x ++ 0xFF ∷ r) ≡ r
unfolding past_ff
ff-past [] r h = refl
ff-past (b ∷ x) r h = rw (ne_eqb b 0xFF (λ e. omega arith), ff-past x r h.1)

-- ---- counts: the number that k bytes write
number_of : ℕ → List ℕ → ℕ
number_of zero s = 0
number_of (suc k) [] = 0
number_of (suc k) (b ∷ s) = number_of k s * 256 + b

count-back : (k n : ℕ) (r : List ℕ) → n < 256 ^ k → number_of k (little_endian k n ++ r) ≡ n
unfolding number_of little_endian
count-back zero n r h = omega arith
count-back (suc k) n r h =
    rw (count-back k (n / 256) r ((div-lt_iff_lt-mul (omega arith)).1 (rw pow-suc at h))) (div-add-mod' n 256)

count-rest : (k n : ℕ) (r : List ℕ) → drop k (little_endian k n ++ r) ≡ r
unfolding little_endian
count-rest zero n r = refl
count-rest (suc k) n r = count-rest k (n / 256) r

-- ---- a value has bytes, and a list of them no fewer than items
filled : (v : Value) → 1 ≤ length (canonical v)
unfolding canonical
filled null = omega arith
filled (boolean b) = omega arith
filled (number x) = omega arith
filled (string x) = omega arith
filled (array vs) = omega arith
filled (object ms) = omega arith

items-counted : (vs : Items) → items vs ≤ length (canonical_items vs)
unfolding items
items-counted no_items = omega arith
items-counted (item v vs) = omega (arith, filled v, items-counted vs, item-length v vs)

members-counted : (ms : Members) → members ms ≤ length (canonical_members ms)
unfolding members
members-counted no_members = omega arith
members-counted (member x v ms) = omega (arith, members-counted ms, member-length x v ms)

-- ---- the reader; n bounds how many values it reads one in or behind another
as_array : Items × List ℕ → Value × List ℕ
as_array p = (array p.0, p.1)

as_object : Members × List ℕ → Value × List ℕ
as_object p = (object p.0, p.1)

add_item : Value → Items × List ℕ → Items × List ℕ
add_item v q = (item v q.0, q.1)

add_member : List ℕ → Value → Members × List ℕ → Members × List ℕ
add_member x v q = (member x v q.0, q.1)

mutual
  pub read : ℕ → List ℕ → Value × List ℕ
  read zero s = (null, s)
  read (suc n) [] = (null, [])
  read (suc n) (t ∷ s) =
      cond (eqb t 0) (null, s)
      (cond (eqb t 1) (boolean (eqb (get_or s 0 0) 1), drop 1 s)
      (cond (eqb t 2) (number (up_to_ff s), past_ff s)
      (cond (eqb t 3) (string (up_to_ff s), past_ff s)
      (cond (eqb t 4) (as_array (read_items n (number_of 8 s) (drop 8 s)))
      (as_object (read_members n (number_of 8 s) (drop 8 s)))))))

  read_items : (n k : ℕ) → List ℕ → Items × List ℕ
  read_items zero k s = (no_items, s)
  read_items (suc n) zero s = (no_items, s)
  read_items (suc n) (suc k) s = add_item (read n s).0 (read_items n k (read n s).1)

  read_members : (n k : ℕ) → List ℕ → Members × List ℕ
  read_members zero k s = (no_members, s)
  read_members (suc n) zero s = (no_members, s)
  read_members (suc n) (suc k) s =
      add_member (up_to_ff s) (read n (past_ff s)).0 (read_members n k (read n (past_ff s)).1)

-- ---- it reads back
mutual
  unfolding read read_items read_members as_array as_object add_item add_member canonical canonical_items canonical_members items members

  pub read_back :
      (n : ℕ) (v : Value) (r : List ℕ) → n ≤ 163840 → length (canonical v) ≤ n → Clean v → read n (canonical v ++ r) ≡ (v, r)
  read_back zero v r b l c = absurd (omega (arith, filled v))
  read_back (suc n) null r b l c = refl
  read_back (suc n) (boolean true) r b l c = refl
  read_back (suc n) (boolean false) r b l c = refl
  read_back (suc n) (number x) r b l c = rw (append_assoc x (0xFF ∷ []) r, ff-ends x r c, ff-past x r c)
  read_back (suc n) (string x) r b l c = rw (append_assoc x (0xFF ∷ []) r, ff-ends x r c, ff-past x r c)
  read_back (suc n) (array vs) r b l c =
      let h : length (canonical_items vs) < n = omega (arith, array-length vs) in
      let k : items vs < 256 ^ 8 = omega (arith, items-counted vs) in
      rw (
        append_assoc (little_endian 8 (items vs)) (canonical_items vs) r,
        count-back 8 (items vs) (canonical_items vs ++ r) k,
        count-rest 8 (items vs) (canonical_items vs ++ r),
        items_back n vs r (omega arith) h c,
      )
  read_back (suc n) (object ms) r b l c =
      let h : length (canonical_members ms) < n = omega (arith, object-length ms) in
      let k : members ms < 256 ^ 8 = omega (arith, members-counted ms) in
      rw (
        append_assoc (little_endian 8 (members ms)) (canonical_members ms) r,
        count-back 8 (members ms) (canonical_members ms ++ r) k,
        count-rest 8 (members ms) (canonical_members ms ++ r),
        members-back n ms r (omega arith) h c,
      )

  items_back :
      (n : ℕ) (vs : Items) (r : List ℕ) →
      n ≤ 163840 → length (canonical_items vs) < n → CleanItems vs → read_items n (items vs) (canonical_items vs ++ r) ≡ (vs, r)
  items_back zero vs r b l c = absurd (omega arith)
  items_back (suc n) no_items r b l c = refl
  items_back (suc n) (item v vs) r b l c =
      let e = item-length v vs in
      let f = filled v in
      rw (
        append_assoc (canonical v) (canonical_items vs) r,
        read_back n v (canonical_items vs ++ r) (omega arith) (omega arith) c.0,
        items_back n vs r (omega arith) (omega arith) c.1,
      )

  members-back :
      (n : ℕ) (ms : Members) (r : List ℕ) →
      n ≤ 163840 → length (canonical_members ms) < n → CleanMembers ms → read_members n (members ms) (canonical_members ms ++ r) ≡ (ms, r)
  members-back zero ms r b l c = absurd (omega arith)
  members-back (suc n) no_members r b l c = refl
  members-back (suc n) (member x v ms) r b l c =
      let e = member-length x v ms in
      rw (
        append_assoc x (0xFF ∷ (canonical v ++ canonical_members ms)) r,
        append_assoc (canonical v) (canonical_members ms) r,
        ff-ends x (canonical v ++ (canonical_members ms ++ r)) c.0,
        ff-past x (canonical v ++ (canonical_members ms ++ r)) c.0,
        read_back n v (canonical_members ms ++ r) (omega arith) (omega arith) c.1,
        members-back n ms r (omega arith) (omega arith) c.2,
      )
