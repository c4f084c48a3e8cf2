-- Laws of bytes that are written into a list from a place on.
use mathlib.Core.Path.{◌≡◌, refl, sym, ◌∙◌, ap}
use mathlib.Core.List.{List, [], ◌∷◌, ◌++◌, append_assoc}
use Prim.Native.Nat.{ℕ, suc, ◌+◌, ◌-◌, ◌≤◌, ◌<◌}
use native.Mathlib.Nat.{add-zero, zero-add}
use native.Mathlib.Numerals.{add-one}
use native.Mathlib.Omega.{arith}
use lib.ListN.{length, take, drop, get_or, set, length-append, length-take, length-drop, take-append-drop}
use lib.Seq.{take_at, drop_at, take-take, take-append-le, drop-drop, set_split, take-suc, get_or-drop, sets, sets-eq}
use borrow.Rule.Slice.PartMut.{put_mid}
use Rattle.writing.specs.Writing.{written}

-- a list in three parts, cut behind the second
module _ (p x q : List ℕ) (n : ℕ) (h : length p + length x ≡ n) where
  front_length : length (p ++ x) ≡ n
  front_length = length-append p x ∙ h

  cut-front : take n (p ++ (x ++ q)) ≡ p ++ x
  cut-front = rw (← append_assoc p x q) (take_at (p ++ x) q n front_length)

  cut-back : drop n (p ++ (x ++ q)) ≡ q
  cut-back = rw (← append_assoc p x q) (drop_at (p ++ x) q n front_length)

module _ (at : ℕ) (o : List ℕ) (h : at ≤ length o) where
  below_length : length (take at o) ≡ at
  below_length = simp length-take (omega arith)

pub written-length : (at : ℕ) (x o : List ℕ) → at + length x ≤ length o → length (written at x o) ≡ length o
unfolding written
written-length at x o h = simp (length-append, length-take, length-drop) (omega arith)

pub written_none : (at : ℕ) (o : List ℕ) → written at [] o ≡ o
unfolding written
written_none at o = rw add-zero (take-append-drop at o)

pub written_one : (at b : ℕ) (o : List ℕ) → at < length o → set o at b ≡ written at (b ∷ []) o
unfolding written
written_one at b o h = rw add-one (set_split o at b h)

pub written-front : (x o : List ℕ) → written 0 x o ≡ x ++ drop (length x) o
unfolding written
written-front x o = rw (zero-add (length x)) refl

-- more behind what is written
pub written_then : (at : ℕ) (x y o : List ℕ) → at ≤ length o → written (at + length x) y (written at x o) ≡ written at (x ++ y) o
unfolding written
written_then at x y o h =
    let p = take at o in
    let q = drop (at + length x) o in
    let l : length p + length x ≡ at + length x = omega (arith, below_length at o h) in
    let e : at + length x + length y ≡ at + length (x ++ y) = omega (arith, length-append x y) in
    let b : drop (at + length x + length y) (p ++ (x ++ q)) ≡ drop (at + length (x ++ y)) o =
    sym (drop-drop (length y) (at + length x) (p ++ (x ++ q))) ∙ ap (λ (z : List ℕ). drop (length y) z) (cut-back p x q _ l)
    ∙ drop-drop (length y) (at + length x) o ∙ ap (λ (k : ℕ). drop k o) e in
    rw (cut-front p x q _ l, b) (simp append_assoc)

-- and the front after the back
pub written-before :
    (at : ℕ) (x y o : List ℕ) → at + length x ≤ length o → written at x (written (at + length x) y o) ≡ written at (x ++ y) o
unfolding written
written-before at x y o h =
    let n = at + length x in
    let p = take n o in
    let q = y ++ drop (n + length y) o in
    let f : take at (p ++ q) ≡ take at o =
    take-append-le at p q (omega (arith, below_length n o h)) ∙ take-take at n o (omega arith) in
    let b : drop n (p ++ q) ≡ q = drop_at p q n (below_length n o h) in
    let e : n + length y ≡ at + length (x ++ y) = omega (arith, length-append x y) in
    rw (f, b, e, append_assoc)

-- one byte more
pub written_next :
    (at : ℕ) (x o : List ℕ) (n b : ℕ) → n ≡ at + length x → n < length o → set (written at x o) n b ≡ written at (x ++ (b ∷ [])) o
written_next at x o n b e h =
    rw e (written_one (at + length x) b (written at x o) (omega (arith, written-length at x o (omega arith)))
    ∙ written_then at x (b ∷ []) o (omega arith))

-- the bytes x copied over as many
pub written_mid : (at k : ℕ) (y : List ℕ) {x : List ℕ} (o : List ℕ) → k ≡ length y → y ≡ x → put_mid at k o y ≡ written at x o
unfolding written
written_mid at k y o e f = rw (← f, e, drop-drop (length y) at o)

-- the bytes of a text from one place up to another, and one more
pub run_length : (t : List ℕ) (from i : ℕ) → i ≤ length t → length (take (i - from) (drop from t)) ≡ i - from
run_length t from i h = simp (length-take, length-drop) (omega arith)

pub run_more :
    (t : List ℕ) (from i : ℕ) → from ≤ i → i < length t →
    take (i + 1 - from) (drop from t) ≡ take (i - from) (drop from t) ++ (get_or t i 0 ∷ [])
run_more t from i h k =
    let e : i + 1 - from ≡ suc (i - from) = omega arith in
    let f : from + (i - from) ≡ i = omega arith in
    rw e
    (take-suc (drop from t) (i - from) 0 (simp length-drop (omega arith))
    ∙ ap (λ (b : ℕ). take (i - from) (drop from t) ++ (b ∷ [])) (get_or-drop from t (i - from) 0 ∙ ap (λ (n : ℕ). get_or t n 0) f))

-- stores one after the other
pub written-sets : (at : ℕ) (x o : List ℕ) → at + length x ≤ length o → sets o at x ≡ written at x o
unfolding written
written-sets at x o h = sets-eq x o at h ∙ append_assoc (take at o) x (drop (at + length x) o)
