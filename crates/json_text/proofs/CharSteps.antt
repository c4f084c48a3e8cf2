-- The chars of a string, one at a time, as they are skipped.
use Rattle.std.specs.Prelude.{None, Some}
use mathlib.Core.Path.{◌≡◌, refl}
use mathlib.Core.Bool.{Bool, true, false, and-false}
use mathlib.Core.List.{List, [], ◌∷◌}
use Prim.Native.Nat.{ℕ, zero, suc, ◌≤◌, ◌<◌, zero-le}
use native.Mathlib.Omega.{arith}
use borrow.Author.Tests.{eqb-false, ltb-true, ltb-false, ne_eqb, eq-eqb}
use lib.Dec.{ltb, eqb}
use lib.ListN.{length, drop, length-drop}
use Rattle.json_text.specs.Bytes.{within, plain, tail, first_of_three, first_of_four, escape_of, hex_of, hex_four, is_scalar, is_high, is_low}
use Rattle.json_text.specs.Work.{byte_at, hex_at, pair_len, escape_len, utf8_len, char_len, chars_from, chars_rest}
use Rattle.json_text.proofs.Bounds.{byte_past}
use Rattle.rules.proofs.Tests.{ff≢tt, by_cond, and-true-right}

-- what a test accepts that refuses 256 stands in the list
test-inside : (f : ℕ → Bool) (s : List ℕ) (i : ℕ) → f 256 ≡ false → f (byte_at s i) ≡ true → i < length s
test-inside f s i n y = go (ltb i (length s)) refl
  where
    go : (b : Bool) → ltb i (length s) ≡ b → i < length s
    go true e = ltb-true i (length s) e
    go false e = absurd (ff≢tt n (rw (byte_past s i (ltb-false i (length s) e)) at y))

hex-short : (a b c : ℕ) → hex_four a b c 256 ≡ 65536
unfolding hex_four hex_of within
hex-short a b c = simp and-false

scalar-inside : (s : List ℕ) → is_scalar (hex_at s 2) ≡ true → 5 < length s
unfolding is_scalar within
scalar-inside s e =
    test-inside (λ d. is_scalar (hex_four (byte_at s 2) (byte_at s 3) (byte_at s 4) d)) s 5 (rw hex-short) e

low-inside : (s : List ℕ) → is_low (hex_at s 8) ≡ true → 11 < length s
unfolding is_low within
low-inside s e =
    test-inside (λ d. is_low (hex_four (byte_at s 8) (byte_at s 9) (byte_at s 10) d)) s 11 (rw hex-short) e

pair_fits : (s : List ℕ) → pair_len s ≤ length s
unfolding pair_len
pair_fits s =
    by_cond (λ (n : ℕ). n ≤ length s) _
    (λ e. low-inside s (and-true-right (eqb (byte_at s 7) 0x75) _ (and-true-right (eqb (byte_at s 6) 0x5C) _ (and-true-right (is_high (hex_at s 2)) _ e))))
    (λ e. zero-le)

escape-fits : (s : List ℕ) → escape_len s ≤ length s
unfolding escape_len
escape-fits s =
    by_cond (λ (n : ℕ). n ≤ length s) (ltb (escape_of (byte_at s 1)) 256)
    (λ e. test-inside (λ b. ltb (escape_of b) 256) s 1 escape-past e)
    (λ e. by_cond (λ (n : ℕ). n ≤ length s) (eqb (byte_at s 1) 0x75)
    (λ u. by_cond (λ (n : ℕ). n ≤ length s) (is_scalar (hex_at s 2)) (scalar-inside s) (λ u. pair_fits s))
    (λ u. zero-le))
  where
    escape-past : ltb (escape_of 256) 256 ≡ false
    escape-past = unfold escape_of in refl

utf8-fits : (s : List ℕ) → utf8_len s ≤ length s
unfolding utf8_len
utf8-fits s =
    by_cond (λ (n : ℕ). n ≤ length s) _
    (λ e. test-inside tail s 1 tail-past (and-true-right (within 0xC2 0xDF (byte_at s 0)) _ e))
    (λ e. by_cond (λ (n : ℕ). n ≤ length s) _
    (λ e. test-inside tail s 2 tail-past (and-true-right (first_of_three (byte_at s 0) (byte_at s 1)) _ e))
    (λ e. by_cond (λ (n : ℕ). n ≤ length s) _
    (λ e. test-inside tail s 3 tail-past (and-true-right (tail (byte_at s 2)) _ (and-true-right (first_of_four (byte_at s 0) (byte_at s 1)) _ e)))
    (λ e. zero-le)))
  where
    tail-past : tail 256 ≡ false
    tail-past = unfold tail within in refl

pub char-fits : (s : List ℕ) → char_len s ≤ length s
unfolding char_len
char-fits s =
    by_cond (λ (n : ℕ). n ≤ length s) (plain (byte_at s 0))
    (λ e. test-inside plain s 0 plain-past e)
    (λ e. by_cond (λ (n : ℕ). n ≤ length s) (eqb (byte_at s 0) 0x5C) (λ e. escape-fits s) (λ e. utf8-fits s))
  where
    plain-past : plain 256 ≡ false
    plain-past = unfold plain within in refl

-- more chars than there are bytes are never read
from_past : (n : ℕ) (s : List ℕ) → length s ≤ 0 → chars_from n s ≡ None
unfolding chars_from
from_past zero s h = refl
from_past (suc n) s h = rw (byte_past s 0 h, eq-eqb (char_len s) 0 (omega (arith, char-fits s)))

from-same : (n m : ℕ) (s : List ℕ) → length s ≤ n → length s ≤ m → chars_from n s ≡ chars_from m s
unfolding chars_from
from-same zero m s h k = rw (from_past m s h)
from-same (suc n) zero s h k = from_past (suc n) s k
from-same (suc n) (suc m) s h k = go (eqb (char_len s) 0) refl (from-same n m (drop (char_len s) s))
  where
    go : (b : Bool) → eqb (char_len s) 0 ≡ b
        → (length (drop (char_len s) s) ≤ n → length (drop (char_len s) s) ≤ m → chars_from n (drop (char_len s) s) ≡ chars_from m (drop (char_len s) s))
        → chars_from (suc n) s ≡ chars_from (suc m) s
    go true e r = rw e
    go false e r =
        let z : char_len s ≡ 0 → ⊥ = eqb-false (char_len s) 0 e in
        rw (r (simp length-drop (omega arith)) (simp length-drop (omega arith)))

pub chars-mark : (s : List ℕ) → eqb (byte_at s 0) 0x22 ≡ true → chars_rest s ≡ Some (drop 1 s)
unfolding chars_rest chars_from
chars-mark [] h = absurd (ff≢tt refl h)
chars-mark (b ∷ s) h = rw h

pub chars-more :
    (s : List ℕ) → eqb (byte_at s 0) 0x22 ≡ false → 0 < char_len s → chars_rest s ≡ chars_rest (drop (char_len s) s)
unfolding chars_rest chars_from
chars-more [] h k = absurd (omega (arith, char-fits []))
chars-more (b ∷ s) h k =
    rw (h, ne_eqb (char_len (b ∷ s)) 0 (λ z. omega arith))
    (from-same (length s) (length (drop (char_len (b ∷ s)) (b ∷ s))) _ (simp length-drop (omega arith)) (omega arith))

pub chars-bad : (s : List ℕ) → eqb (byte_at s 0) 0x22 ≡ false → char_len s ≡ 0 → chars_rest s ≡ None
unfolding chars_rest chars_from
chars-bad [] h k = refl
chars-bad (b ∷ s) h k = rw (h, eq-eqb (char_len (b ∷ s)) 0 k)
