-- A literal, a colon and a name at a place of a text, by the byte b that stands there; a word, one byte at a time.
use Rattle.std.specs.Prelude.{None, Some}
use mathlib.Core.Path.{◌≡◌}
use mathlib.Core.List.{List, [], ◌∷◌}
use Prim.Native.Nat.{ℕ, ◌+◌, ◌≤◌, ◌<◌}
use borrow.Author.Tests.{eq-eqb, ne_eqb}
use lib.ListN.{length, drop}
use Rattle.json_text.specs.Work.{byte_at, skip_ws, chars_rest, word_rest, literal_rest, colon_rest, name_rest}
use Rattle.json_text.proofs.Bounds.{left_at, left-past}
use Rattle.json_text.proofs.Places.{byte-here, front-byte, behind-here}

-- the word w from i on, against the text t from e on
module _ (t w : List ℕ) (e i : ℕ) where
  pub word_on : i < length w → byte_at t e ≡ byte_at w i → word_rest (drop i w) (drop e t) ≡ word_rest (drop (i + 1) w) (drop (e + 1) t)
  unfolding word_rest
  word_on h p = rw (left_at w i h, byte-here t e, eq-eqb (byte_at t e) (byte_at w i) p, behind-here t e)

  pub word-stop : i < length w → (byte_at t e ≡ byte_at w i → ⊥) → word_rest (drop i w) (drop e t) ≡ None
  unfolding word_rest
  word-stop h p = rw (left_at w i h, byte-here t e, ne_eqb (byte_at t e) (byte_at w i) p)

  pub word-done : length w ≤ i → word_rest (drop i w) (drop e t) ≡ Some (drop e t)
  unfolding word_rest
  word-done h = rw (left-past w i h)

module _ (t : List ℕ) (i b : ℕ) (e : b ≡ byte_at t i) where
  front : byte_at (drop i t) 0 ≡ b
  front = front-byte t i b e

  pub literal-null : b ≡ 0x6E → literal_rest (drop i t) ≡ word_rest (0x75 ∷ 0x6C ∷ 0x6C ∷ []) (drop (i + 1) t)
  unfolding literal_rest
  literal-null h = rw (front, h, behind-here t i)

  pub literal-true : b ≡ 0x74 → literal_rest (drop i t) ≡ word_rest (0x72 ∷ 0x75 ∷ 0x65 ∷ []) (drop (i + 1) t)
  unfolding literal_rest
  literal-true h = rw (front, h, behind-here t i)

  pub literal-false : b ≡ 0x66 → literal_rest (drop i t) ≡ word_rest (0x61 ∷ 0x6C ∷ 0x73 ∷ 0x65 ∷ []) (drop (i + 1) t)
  unfolding literal_rest
  literal-false h = rw (front, h, behind-here t i)

  pub literal-none : (b ≡ 0x6E → ⊥) → (b ≡ 0x74 → ⊥) → (b ≡ 0x66 → ⊥) → literal_rest (drop i t) ≡ None
  unfolding literal_rest
  literal-none h k l = rw (front, ne_eqb b 0x6E h, ne_eqb b 0x74 k, ne_eqb b 0x66 l)

  pub colon-yes : b ≡ 0x3A → colon_rest (drop i t) ≡ Some (skip_ws (drop (i + 1) t))
  unfolding colon_rest
  colon-yes h = rw (front, h, behind-here t i)

  pub colon-no : (b ≡ 0x3A → ⊥) → colon_rest (drop i t) ≡ None
  unfolding colon_rest
  colon-no h = rw (front, ne_eqb b 0x3A h)

  pub name-no-mark : (b ≡ 0x22 → ⊥) → name_rest (drop i t) ≡ None
  unfolding name_rest
  name-no-mark h = rw (front, ne_eqb b 0x22 h)

  pub name-no-string : b ≡ 0x22 → chars_rest (drop (i + 1) t) ≡ None → name_rest (drop i t) ≡ None
  unfolding name_rest
  name-no-string h n = rw (front, h, behind-here t i, n)

  pub name-colon :
      (a : ℕ) → b ≡ 0x22 → chars_rest (drop (i + 1) t) ≡ Some (drop a t) → name_rest (drop i t) ≡ colon_rest (skip_ws (drop a t))
  unfolding name_rest
  name-colon a h n = rw (front, h, behind-here t i, n)
