-- What a run of digits writes, read from the front: behind digits that wrote n.
use mathlib.Core.Path.{◌≡◌, refl, ◌∙◌}
use mathlib.Core.Bool.{cond, true, false, ◌&&◌, and-false}
use mathlib.Core.List.{List, [], ◌∷◌}
use Prim.Native.Nat.{ℕ, suc, ◌+◌, ◌-◌, ◌*◌, ◌^◌, ◌≤◌, ◌<◌}
use native.Mathlib.Omega.{arith}
use borrow.Author.Tests.{lt-ltb, le-ltb}
use lib.Dec.{ltb}
use lib.ListN.{length, take, drop}
use Rattle.std.specs.Prelude.{Option, Some, None}
use Rattle.json_text.specs.Bytes.{is_digit}
use Rattle.json_text.specs.Refusals.{all_digits, decimal}
use Rattle.json_text.specs.Work.{byte_at, decimal_of}
use Rattle.json_text.proofs.Bounds.{left_at}

unfoldable pub decimal_from : ℕ → List ℕ → Option ℕ
decimal_from n x = cond (all_digits x && ltb (decimal n x) (2 ^ 64)) (Some (decimal n x)) None

pub decimal-first : (x : List ℕ) → decimal_of x ≡ decimal_from 0 x
unfolding decimal_of decimal_from
decimal-first x = refl

pub decimal-grows : (n : ℕ) (x : List ℕ) → n ≤ decimal n x
unfolding decimal
decimal-grows n [] = omega arith
decimal-grows n (b ∷ x) = omega (arith, decimal-grows (n * 10 + (b - 0x30)) x)

pub decimal-over : (n : ℕ) (x : List ℕ) → 2 ^ 64 ≤ n → decimal_from n x ≡ None
unfolding decimal_from
decimal-over n x h =
    rw (le-ltb (decimal n x) (2 ^ 64) (omega (arith, decimal-grows n x)), and-false (all_digits x))

pub decimal-none : (n : ℕ) → n < 2 ^ 64 → decimal_from n [] ≡ Some n
unfolding decimal_from all_digits decimal
decimal-none n h = rw (lt-ltb n (2 ^ 64) h)

pub decimal_digit : (n b : ℕ) (x : List ℕ) → is_digit b ≡ true → decimal_from n (b ∷ x) ≡ decimal_from (n * 10 + (b - 0x30)) x
unfolding decimal_from all_digits decimal
decimal_digit n b x h = rw h

pub decimal-other : (n b : ℕ) (x : List ℕ) → is_digit b ≡ false → decimal_from n (b ∷ x) ≡ None
unfolding decimal_from all_digits
decimal-other n b x h = rw h

-- the bytes from one place of a text up to another
pub part-on :
    (t : List ℕ) (i to : ℕ) → i < to → to ≤ length t → take (to - i) (drop i t) ≡ byte_at t i ∷ take (to - (i + 1)) (drop (i + 1) t)
part-on t i to h k =
    let more : to - i ≡ suc (to - (i + 1)) = omega arith in
    rw (left_at t i (omega arith), more)

pub part_end : (t : List ℕ) (i to : ℕ) → to ≤ i → take (to - i) (drop i t) ≡ []
part_end t i to h =
    let no : to - i ≡ 0 = omega arith in
    rw no

-- the same at a place, by the byte b that stands there
module _ (t : List ℕ) (i to n b : ℕ) (e : b ≡ byte_at t i) (h : i < to) (k : to ≤ length t) where
  pub decimal-on :
      is_digit b ≡ true → decimal_from n (take (to - i) (drop i t)) ≡ decimal_from (n * 10 + (b - 0x30)) (take (to - (i + 1)) (drop (i + 1) t))
  decimal-on d = rw (part-on t i to h k, ← e) (decimal_digit n b _ d)

  pub decimal-stop : is_digit b ≡ false → decimal_from n (take (to - i) (drop i t)) ≡ None
  decimal-stop d = rw (part-on t i to h k, ← e) (decimal-other n b _ d)

  pub decimal-large : is_digit b ≡ true → 2 ^ 64 ≤ n * 10 + (b - 0x30) → decimal_from n (take (to - i) (drop i t)) ≡ None
  decimal-large d l = decimal-on d ∙ decimal-over (n * 10 + (b - 0x30)) _ l

-- a further digit that no longer fits
pub digits_large :
    (t : List ℕ) (i to n : ℕ) → i < to → to ≤ length t → is_digit (byte_at t i) ≡ true → 2 ^ 64 ≤ n * 10 + (byte_at t i - 0x30) →
    decimal_from n (take (to - i) (drop i t)) ≡ None
digits_large t i to n h k d l = decimal-large t i to n (byte_at t i) refl h k d l
