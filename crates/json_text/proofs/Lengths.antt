-- Lengths of what stands at a place of a text, and the tests that they are made of.
use mathlib.Core.Path.{◌≡◌, refl}
use mathlib.Core.Bool.{true, false, ◌&&◌, cond, and-false}
use mathlib.Core.List.{List}
use Prim.Native.Nat.{ℕ, ◌+◌, ◌<◌}
use native.Mathlib.Nat.{add_assoc}
use native.Mathlib.Omega.{arith}
use borrow.Author.Tests.{ne_eqb}
use lib.Dec.{ltb, eqb}
use lib.ListN.{drop}
use Rattle.json_text.specs.Bytes.{within, plain, tail, first_of_three, first_of_four, escape_of, is_scalar, is_high, is_low}
use Rattle.json_text.specs.Work.{byte_at, hex_at, pair_len, escape_len, utf8_len, special_len, char_len}
use Rattle.json_text.proofs.Bounds.{byte-drop}
use Rattle.json_text.proofs.Places.{byte-here}
use Rattle.json_text.proofs.Tests.{within-high, outside_low}
use Rattle.std.proofs.lemmas.Bool.Decides.{nat_tests}

-- what begins a char of two bytes begins none of three or four
module _ (a b : ℕ) (h : within 0xC2 0xDF a ≡ true) where
  below : a < 0xE0
  below = omega (arith, within-high 0xC2 0xDF a h)

  two-not-three : first_of_three a b ≡ false
  unfolding first_of_three
  two-not-three =
      let l = below in
      rw (ne_eqb a 0xE0 (omega arith), ne_eqb a 0xED (omega arith), outside_low 0xE1 0xEF a (omega arith))

  two-not-four : first_of_four a b ≡ false
  unfolding first_of_four
  two-not-four =
      let l = below in
      rw (ne_eqb a 0xF0 (omega arith), ne_eqb a 0xF4 (omega arith), outside_low 0xF1 0xF3 a (omega arith))

-- at a place of a text
module _ (t : List ℕ) (n : ℕ) where
  pub hex-drop : (i : ℕ) → hex_at (drop n t) i ≡ hex_at t (n + i)
  hex-drop i = simp (byte-drop, add_assoc)

  pub pair-at :
      pair_len (drop n t) ≡
      cond (is_high (hex_at t (n + 2)) && (eqb (byte_at t (n + 6)) 0x5C && (eqb (byte_at t (n + 7)) 0x75 && is_low (hex_at t (n + 8))))) 12 0
  unfolding pair_len
  pair-at = rw (hex-drop 2, byte-drop n t 6, byte-drop n t 7, hex-drop 8)

  pub escape-at :
      escape_len (drop n t) ≡
      cond (ltb (escape_of (byte_at t (n + 1))) 256) 2
      (cond (eqb (byte_at t (n + 1)) 0x75) (cond (is_scalar (hex_at t (n + 2))) 6 (pair_len (drop n t))) 0)
  unfolding escape_len
  escape-at = rw (byte-drop n t 1, hex-drop 2)

  pub utf8-at :
      utf8_len (drop n t) ≡
      cond (within 0xC2 0xDF (byte_at t n) && tail (byte_at t (n + 1))) 2
      (cond (first_of_three (byte_at t n) (byte_at t (n + 1)) && tail (byte_at t (n + 2))) 3
      (cond (first_of_four (byte_at t n) (byte_at t (n + 1)) && (tail (byte_at t (n + 2)) && tail (byte_at t (n + 3)))) 4 0))
  unfolding utf8_len
  utf8-at = rw (byte-here t n, byte-drop n t 1, byte-drop n t 2, byte-drop n t 3)

  pub utf8-no-tail : within 0xC2 0xDF (byte_at t n) ≡ true → tail (byte_at t (n + 1)) ≡ false → utf8_len (drop n t) ≡ 0
  utf8-no-tail h e = rw utf8-at (simp (e, and-false, two-not-three (byte_at t n) (byte_at t (n + 1)) h, two-not-four (byte_at t n) (byte_at t (n + 1)) h))

  pub char-plain : plain (byte_at t n) ≡ true → 1 ≡ char_len (drop n t)
  unfolding char_len
  char-plain h = rw (byte-here t n, h)

  pub char-special : plain (byte_at t n) ≡ false → special_len (drop n t) ≡ char_len (drop n t)
  unfolding char_len
  char-special h = rw (byte-here t n, h)

-- what four digits give that are none is no code point
pub no_scalar : is_scalar 65536 ≡ false
unfolding is_scalar within
no_scalar = refl

pub no_high : is_high 65536 ≡ false
unfolding is_high within
no_high = refl

pub ruleset length_rules = (nat_tests, pair-at, escape-at, utf8-at, utf8-no-tail, no_scalar, no_high)
