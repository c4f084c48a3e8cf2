-- What reading at a place i of a text leads to, by the byte b that stands there and by where what begins there ends.
use Rattle.std.specs.Prelude.{None, Some}
use mathlib.Core.Path.{◌≡◌, ap}
use mathlib.Core.Bool.{Bool, true, false}
use mathlib.Core.List.{List, ◌∷◌}
use Prim.Native.Nat.{ℕ, ◌+◌, ◌-◌, ◌≤◌}
use native.Mathlib.Omega.{arith}
use borrow.Author.Tests.{ne_eqb}
use lib.ListN.{length, take, drop, length-drop}
use Rattle.json_text.specs.Bytes.{within, is_digit}
use Rattle.json_text.specs.Refusals.{number_fault, depth_fault, first}
use Rattle.json_text.specs.Work.{byte_at, skip_ws, chars_rest, number_rest, up_to, literal_rest, name_rest}
use Rattle.json_text.proofs.Places.{front-byte, behind-here}
use Rattle.json_check.specs.Runs.{go, bad, value, after}
use Rattle.json_check.specs.Runs.{in_array, in_object, of_string, of_number, of_literal, of_value}

-- the bytes between two places
pub up-to-place : (t : List ℕ) (i e : ℕ) → i ≤ e → e ≤ length t → up_to (drop e t) (drop i t) ≡ take (e - i) (drop i t)
up-to-place t i e h k =
    let q : length (drop i t) - length (drop e t) ≡ e - i = simp length-drop (omega arith) in
    ap (λ (n : ℕ). take n (drop i t)) q

-- past a string, a number or a literal that ends at e
module _ (t : List ℕ) (i : ℕ) (k : List Bool) (g : ℕ) where
  pub string-none : chars_rest (drop (i + 1) t) ≡ None → of_string k (drop i t) g ≡ bad
  unfolding of_string
  string-none h = rw (behind-here t i, h)

  pub string-some : (e : ℕ) → chars_rest (drop (i + 1) t) ≡ Some (drop e t) → of_string k (drop i t) g ≡ go (after k (drop e t) g)
  unfolding of_string
  string-some e h = rw (behind-here t i, h)

  pub number-none : number_rest (drop i t) ≡ None → of_number k (drop i t) g ≡ bad
  unfolding of_number
  number-none h = rw h

  pub number-some :
      (e f : ℕ) → i ≤ e → e ≤ length t → number_rest (drop i t) ≡ Some (drop e t) →
      f ≡ first g (number_fault (take (e - i) (drop i t))) → of_number k (drop i t) g ≡ go (after k (drop e t) f)
  unfolding of_number
  number-some e f l m h q = rw (h, q) (rw (up-to-place t i e l m))

  pub literal-none : literal_rest (drop i t) ≡ None → of_literal k (drop i t) g ≡ bad
  unfolding of_literal
  literal-none h = rw h

  pub literal-some : (e : ℕ) → literal_rest (drop i t) ≡ Some (drop e t) → of_literal k (drop i t) g ≡ go (after k (drop e t) g)
  unfolding of_literal
  literal-some e h = rw h

-- behind a bracket at i and its ws, at w, where b stands; l are the brackets that are then open, f is g
module _
    (t : List ℕ) (i w b : ℕ) (ws : drop w t ≡ skip_ws (drop (i + 1) t)) (at : b ≡ byte_at t w)
    (k : List Bool) (g f : ℕ) (same : f ≡ g)
  where
    front-behind : byte_at (drop w t) 0 ≡ b
    front-behind = front-byte t w b at

    pub array-end : b ≡ 0x5D → in_array k (skip_ws (drop (i + 1) t)) g ≡ go (after k (drop (w + 1) t) f)
    unfolding in_array
    array-end h = rw (← ws, front-behind, h, behind-here t w, same)

    pub array-item : {l : List Bool} → (b ≡ 0x5D → ⊥) → l ≡ true ∷ k → in_array k (skip_ws (drop (i + 1) t)) g ≡ go (value l (drop w t) f)
    unfolding in_array
    array-item h q = rw (← ws, front-behind, ne_eqb b 0x5D h, same, q)

    pub object-end : b ≡ 0x7D → in_object k (skip_ws (drop (i + 1) t)) g ≡ go (after k (drop (w + 1) t) f)
    unfolding in_object
    object-end h = rw (← ws, front-behind, h, behind-here t w, same)

    pub object-no-name : (b ≡ 0x7D → ⊥) → name_rest (drop w t) ≡ None → in_object k (skip_ws (drop (i + 1) t)) g ≡ bad
    unfolding in_object
    object-no-name h n = rw (← ws, front-behind, ne_eqb b 0x7D h, n)

    pub object-name :
        {l : List Bool} (e : ℕ) → (b ≡ 0x7D → ⊥) → name_rest (drop w t) ≡ Some (drop e t) → l ≡ false ∷ k →
        in_object k (skip_ws (drop (i + 1) t)) g ≡ go (value l (drop e t) f)
    unfolding in_object
    object-name e h n q = rw (← ws, front-behind, ne_eqb b 0x7D h, n, same, q)

-- at a value, by its first byte b
module _ (t : List ℕ) (i b : ℕ) (at : b ≡ byte_at t i) (k : List Bool) (g : ℕ) where
  front : byte_at (drop i t) 0 ≡ b
  front = front-byte t i b at

  pub value-string : b ≡ 0x22 → of_value k (drop i t) g ≡ of_string k (drop i t) g
  unfolding of_value
  value-string h = rw (front, h)

  pub value-minus : b ≡ 0x2D → of_value k (drop i t) g ≡ of_number k (drop i t) g
  unfolding of_value
  value-minus h = rw (front, h)

  pub value-digit : (b ≡ 0x22 → ⊥) → (b ≡ 0x2D → ⊥) → is_digit b ≡ true → of_value k (drop i t) g ≡ of_number k (drop i t) g
  unfolding of_value
  value-digit p q h = rw (front, ne_eqb b 0x22 p, ne_eqb b 0x2D q, h)

  -- with d brackets open
  module _ (d : ℕ) (deep : length k ≡ d) where
    pub value-array : b ≡ 0x5B → of_value k (drop i t) g ≡ in_array k (skip_ws (drop (i + 1) t)) (first g (depth_fault d))
    unfolding of_value is_digit within
    value-array h = rw (front, h, behind-here t i, deep)

    pub value-object : b ≡ 0x7B → of_value k (drop i t) g ≡ in_object k (skip_ws (drop (i + 1) t)) (first g (depth_fault d))
    unfolding of_value is_digit within
    value-object h = rw (front, h, behind-here t i, deep)

  pub value-literal :
      (b ≡ 0x22 → ⊥) → (b ≡ 0x2D → ⊥) → is_digit b ≡ false → (b ≡ 0x5B → ⊥) → (b ≡ 0x7B → ⊥) →
      of_value k (drop i t) g ≡ of_literal k (drop i t) g
  unfolding of_value
  value-literal p q h r s = rw (front, ne_eqb b 0x22 p, ne_eqb b 0x2D q, h, ne_eqb b 0x5B r, ne_eqb b 0x7B s)
