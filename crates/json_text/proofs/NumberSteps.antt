-- The parts of a number at a place of a text, by the byte b that stands there.
use Rattle.std.specs.Prelude.{None, Some}
use mathlib.Core.Path.{◌≡◌}
use mathlib.Core.Bool.{true, false}
use mathlib.Core.List.{List}
use Prim.Native.Nat.{ℕ, ◌+◌, ◌≤◌}
use native.Mathlib.Omega.{arith}
use borrow.Author.Tests.{ne_eqb}
use lib.ListN.{length, drop}
use Rattle.json_text.specs.Bytes.{within, is_digit}
use Rattle.json_text.specs.Work.{byte_at, skip_digits, digits1_rest, skip_minus, skip_sign, int_rest, frac_rest, exp_rest, number_rest}
use Rattle.json_text.proofs.Places.{front-byte, behind-here, place-behind}
use Rattle.json_text.proofs.Tests.{digit-high}

module _ (t : List ℕ) (i b : ℕ) (e : b ≡ byte_at t i) where
  front : byte_at (drop i t) 0 ≡ b
  front = front-byte t i b e

  pub minus-yes : b ≡ 0x2D → drop (i + 1) t ≡ skip_minus (drop i t)
  unfolding skip_minus
  minus-yes h = rw (front, h, behind-here t i)

  pub minus-no : (b ≡ 0x2D → ⊥) → drop i t ≡ skip_minus (drop i t)
  unfolding skip_minus
  minus-no h = rw (front, ne_eqb b 0x2D h)

  pub sign-minus : b ≡ 0x2D → drop (i + 1) t ≡ skip_sign (drop i t)
  unfolding skip_sign
  sign-minus h = rw (front, h, behind-here t i)

  pub sign-plus : b ≡ 0x2B → drop (i + 1) t ≡ skip_sign (drop i t)
  unfolding skip_sign
  sign-plus h = rw (front, h, behind-here t i)

  pub sign-no : (b ≡ 0x2D → ⊥) → (b ≡ 0x2B → ⊥) → drop i t ≡ skip_sign (drop i t)
  unfolding skip_sign
  sign-no h k = rw (front, ne_eqb b 0x2D h, ne_eqb b 0x2B k)

  pub digits1-yes : is_digit b ≡ true → digits1_rest (drop i t) ≡ Some (skip_digits (drop (i + 1) t))
  unfolding digits1_rest
  digits1-yes h = rw (front, h, behind-here t i)

  pub digits1-no : is_digit b ≡ false → digits1_rest (drop i t) ≡ None
  unfolding digits1_rest
  digits1-no h = rw (front, h)

  pub int-zero : b ≡ 0x30 → int_rest (drop i t) ≡ Some (drop (i + 1) t)
  unfolding int_rest
  int-zero h = rw (front, h, behind-here t i)

  pub int-more : (b ≡ 0x30 → ⊥) → within 0x31 0x39 b ≡ true → int_rest (drop i t) ≡ Some (skip_digits (drop (i + 1) t))
  unfolding int_rest
  int-more h k = rw (front, ne_eqb b 0x30 h, k, behind-here t i)

  pub int-none : (b ≡ 0x30 → ⊥) → within 0x31 0x39 b ≡ false → int_rest (drop i t) ≡ None
  unfolding int_rest
  int-none h k = rw (front, ne_eqb b 0x30 h, k)

  pub frac-yes : b ≡ 0x2E → frac_rest (drop i t) ≡ digits1_rest (drop (i + 1) t)
  unfolding frac_rest
  frac-yes h = rw (front, h, behind-here t i)

  pub frac-no : (b ≡ 0x2E → ⊥) → frac_rest (drop i t) ≡ Some (drop i t)
  unfolding frac_rest
  frac-no h = rw (front, ne_eqb b 0x2E h)

  pub exp-small : b ≡ 0x65 → exp_rest (drop i t) ≡ digits1_rest (skip_sign (drop (i + 1) t))
  unfolding exp_rest
  exp-small h = rw (front, h, behind-here t i)

  pub exp-large : b ≡ 0x45 → exp_rest (drop i t) ≡ digits1_rest (skip_sign (drop (i + 1) t))
  unfolding exp_rest
  exp-large h = rw (front, h, behind-here t i)

  pub exp-no : (b ≡ 0x65 → ⊥) → (b ≡ 0x45 → ⊥) → exp_rest (drop i t) ≡ Some (drop i t)
  unfolding exp_rest
  exp-no h k = rw (front, ne_eqb b 0x65 h, ne_eqb b 0x45 k)

  pub place-behind-digit : is_digit b ≡ true → i + 1 ≤ length t
  place-behind-digit h = place-behind t i b e (omega (arith, digit-high b h))

-- the parts one after another: s with its minus skipped is m, with the whole part w is left, with the fraction p
module _ (s m : List ℕ) (e : m ≡ skip_minus s) where
  pub number-no-int : int_rest m ≡ None → number_rest s ≡ None
  unfolding number_rest
  number-no-int h = rw (← e, h)

  pub number-no-frac : {w : List ℕ} → int_rest m ≡ Some w → frac_rest w ≡ None → number_rest s ≡ None
  unfolding number_rest
  number-no-frac h k = rw (← e, h, k)

  pub number-exp : {w p : List ℕ} → int_rest m ≡ Some w → frac_rest w ≡ Some p → number_rest s ≡ exp_rest p
  unfolding number_rest
  number-exp h k = rw (← e, h, k)
