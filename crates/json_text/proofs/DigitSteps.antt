-- Digits of a text, one at a time, as they are skipped.
use mathlib.Core.Path.{◌≡◌}
use mathlib.Core.Bool.{true, false}
use mathlib.Core.List.{List}
use Prim.Native.Nat.{ℕ, ◌+◌, ◌≤◌, ◌<◌}
use lib.ListN.{length, drop}
use Rattle.json_text.specs.Bytes.{is_digit}
use Rattle.json_text.specs.Work.{byte_at, skip_digits}
use Rattle.json_text.proofs.Bounds.{left_at, left-past}

module _ (t : List ℕ) (i : ℕ) where
  pub digits-on : i < length t → is_digit (byte_at t i) ≡ true → skip_digits (drop i t) ≡ skip_digits (drop (i + 1) t)
  unfolding skip_digits
  digits-on h d = rw (left_at t i h, d)

  pub digits-here : i < length t → is_digit (byte_at t i) ≡ false → skip_digits (drop i t) ≡ drop i t
  unfolding skip_digits
  digits-here h d = rw (left_at t i h, d)

  pub digits-end : length t ≤ i → skip_digits (drop i t) ≡ drop i t
  unfolding skip_digits
  digits-end h = rw (left-past t i h)
