-- Laws of parts that are lent and come back.
use mathlib.Core.Path.{◌≡◌, sym, ◌∙◌}
use mathlib.Core.List.{List, ◌++◌}
use Prim.Native.Nat.{ℕ, ◌+◌, ◌-◌, ◌≤◌, ◌<◌}
use native.Mathlib.Nat.{add-zero}
use native.Mathlib.Omega.{arith}
use lib.ListN.{length, take, drop, get_or, length-take, length-drop, length-append, get_or-append}
use Rattle.words.specs.Words.{part, back}
use lib.Seq.{get_or-take, get_or-drop, get_or-append-add, ext_get_or}

pub part_length : (a e : ℕ) (w : List ℕ) → e ≤ length w → length (part a e w) ≡ e - a
part_length a e w h = simp (length-take, length-drop) (omega arith)

pub get_d_part : (a e : ℕ) (w : List ℕ) (i : ℕ) → i < e - a → get_or (part a e w) i 0 ≡ get_or w (a + i) 0
get_d_part a e w i h = get_or-take (e - a) (drop a w) i 0 h ∙ get_or-drop a w i 0

pub part_ext : (a e : ℕ) (v w : List ℕ) → length v ≡ length w → e ≤ length w → ((i : ℕ) → a ≤ i → i < e → get_or v i 0 ≡ get_or w i 0) → part a e v ≡ part a e w
part_ext a e v w hv hw h =
    let lv : length (part a e v) ≡ e - a = part_length a e v (omega arith) in
    let lw : length (part a e w) ≡ e - a = part_length a e w hw in
    ext_get_or 0 (part a e v) (part a e w) (lv ∙ sym lw)
    (λ i l. let li : i < e - a = omega arith in get_d_part a e v i li ∙ h (a + i) (omega arith) (omega arith) ∙ sym (get_d_part a e w i li))

-- what a loan of a part gives back: the part has the length that it had
pub record Loan (a e : ℕ) (ys w : List ℕ) : Type 0 where
  pub kept : length ys ≡ e - a
  pub start : a ≤ e
  pub inside : e ≤ length w

module _ (a e : ℕ) (ys w : List ℕ) (h : Loan a e ys w) where
  front : length (take a w) ≡ a
  front = simp length-take (omega arith)

  pub length_back : length (back a e ys w) ≡ length w
  length_back = simp (length-append, length-take, length-drop) (omega arith)

  pub back_below : (j : ℕ) → j < a → get_or (back a e ys w) j 0 ≡ get_or w j 0
  back_below j l =
      get_or-append (take a w) (ys ++ drop (e - a) (drop a w)) 0 j (rw front l) ∙ get_or-take a w j 0 l

  pub back_in : (i : ℕ) → i < e - a → get_or (back a e ys w) (a + i) 0 ≡ get_or ys i 0
  back_in i l =
      let m : i < length ys = omega arith in
      (rw front at (get_or-append-add (take a w) (ys ++ drop (e - a) (drop a w)) i 0)) ∙ get_or-append ys (drop (e - a) (drop a w)) 0 i m

  pub back_start : 0 < e - a → get_or (back a e ys w) a 0 ≡ get_or ys 0 0
  back_start l = rw add-zero at (back_in 0 l)

  pub back_above : (j : ℕ) → e ≤ j → get_or (back a e ys w) j 0 ≡ get_or w j 0
  back_above j l =
      let i : ℕ = j - e in
      let q : a + ((e - a) + i) ≡ j = omega arith in
      let t : get_or (back a e ys w) (a + ((e - a) + i)) 0 ≡ get_or w (a + ((e - a) + i)) 0 =
      (rw front at (get_or-append-add (take a w) (ys ++ drop (e - a) (drop a w)) ((e - a) + i) 0))
      ∙ (rw h.kept at (get_or-append-add ys (drop (e - a) (drop a w)) i 0))
      ∙ get_or-drop (e - a) (drop a w) i 0
      ∙ get_or-drop a w ((e - a) + i) 0
      in rw q at t

  -- the part that came back
  pub part_same : part a e (back a e ys w) ≡ ys
  part_same =
      let l : length (part a e (back a e ys w)) ≡ e - a = part_length a e (back a e ys w) (rw length_back h.inside) in
      let k : length ys ≡ e - a = h.kept in
      ext_get_or 0 (part a e (back a e ys w)) ys (l ∙ sym k)
      (λ i m. let hi : i < e - a = omega arith in get_d_part a e (back a e ys w) i hi ∙ back_in i hi)

  -- a part that lies before or after it
  pub part-before : (b f : ℕ) → f ≤ a → part b f (back a e ys w) ≡ part b f w
  part-before b f l = part_ext b f (back a e ys w) w length_back (omega arith) (λ i m n. back_below i (omega arith))

  pub part-after : (b f : ℕ) → e ≤ b → f ≤ length w → part b f (back a e ys w) ≡ part b f w
  part-after b f l m = part_ext b f (back a e ys w) w length_back m (λ i n o. back_above i (omega arith))
