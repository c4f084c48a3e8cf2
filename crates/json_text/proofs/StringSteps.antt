-- The chars of a string at a place of a text.
use Rattle.std.specs.Prelude.{None, Some}
use mathlib.Core.Path.{◌≡◌, sym, ◌∙◌, ap}
use mathlib.Core.Bool.{false}
use mathlib.Core.List.{List}
use Prim.Native.Nat.{ℕ, ◌+◌, ◌≤◌, ◌<◌}
use native.Mathlib.Omega.{arith}
use borrow.Author.Tests.{eq-eqb, ne_eqb}
use lib.Dec.{eqb}
use lib.ListN.{length, drop, get_or, length-drop, drop_of_length-le}
use lib.Seq.{drop-drop}
use Rattle.json_text.specs.Work.{byte_at, special_len, char_len, chars_from, chars_rest}
use Rattle.json_text.proofs.Bounds.{byte-at}
use Rattle.json_text.proofs.CharSteps.{char-fits, chars-mark, chars-more, chars-bad}
use Rattle.json_text.proofs.Places.{byte-here}
use Rattle.json_text.proofs.Lengths.{char-special}
use Rattle.json_text.specs.Bytes.{plain}

pub chars-over : (t : List ℕ) (i : ℕ) → length t ≤ i → chars_rest (drop i t) ≡ None
unfolding chars_rest chars_from
chars-over t i h = rw (drop_of_length-le t {i = i} h)

module _ (t : List ℕ) (i : ℕ) (h : i < length t) where
  pub front : byte_at (drop i t) 0 ≡ get_or t i 0
  front = byte-here t i ∙ sym (byte-at t i h)

  pub chars-closed : get_or t i 0 ≡ 0x22 → chars_rest (drop i t) ≡ Some (drop (i + 1) t)
  chars-closed e = chars-mark (drop i t) (eq-eqb _ 0x22 (front ∙ e)) ∙ ap Some (drop-drop 1 i t)

  pub no-mark : (get_or t i 0 ≡ 0x22 → ⊥) → eqb (byte_at (drop i t) 0) 0x22 ≡ false
  no-mark e = ne_eqb _ 0x22 (λ q. e (sym front ∙ q))

  pub chars-stuck : {n : ℕ} → (get_or t i 0 ≡ 0x22 → ⊥) → n ≡ char_len (drop i t) → n ≡ 0 → chars_rest (drop i t) ≡ None
  chars-stuck e l z = chars-bad (drop i t) (no-mark e) (sym l ∙ z)

  pub chars-on :
      {n : ℕ} → (get_or t i 0 ≡ 0x22 → ⊥) → n ≡ char_len (drop i t) → (n ≡ 0 → ⊥) → chars_rest (drop i t) ≡ chars_rest (drop (i + n) t)
  chars-on e l z = rw l (chars-more (drop i t) (no-mark e) (omega arith) ∙ ap chars_rest (drop-drop (char_len (drop i t)) i t))

  pub char-inside : {n : ℕ} → n ≡ char_len (drop i t) → i + n ≤ length t
  char-inside l = omega (arith, char-fits (drop i t), length-drop i t)

  -- a char that is no plain byte, by its length
  pub special-step : (n : ℕ) → plain (byte_at t i) ≡ false → special_len (drop i t) ≡ n → (n ≡ char_len (drop i t)) × (i + n ≤ length t)
  special-step n p l = let m = sym l ∙ char-special t i p in (m, char-inside m)
