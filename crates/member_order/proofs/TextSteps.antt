-- The bytes that a string stands for, at a place of a text.
use mathlib.Core.Path.{◌≡◌, sym, ◌∙◌, ap}
use mathlib.Core.Bool.{true, false}
use mathlib.Core.List.{List, [], ◌∷◌, ◌++◌}
use Prim.Native.Nat.{ℕ, ◌+◌, ◌≤◌, ◌<◌}
use native.Mathlib.Omega.{arith}
use borrow.Author.Tests.{eq-eqb}
use lib.Dec.{eqb}
use lib.ListN.{length, drop, get_or, drop_of_length-le}
use lib.Seq.{drop-drop}
use Rattle.json_text.specs.Bytes.{plain}
use Rattle.json_text.specs.Work.{byte_at, char_len}
use Rattle.json_text.proofs.Places.{byte-here}
use Rattle.json_text.proofs.StringSteps.{front, no-mark}
use Rattle.member_order.specs.Names.{char_text, text_from, chars_text}
use Rattle.member_order.proofs.TextLaws.{text-mark, text-bad, text-more}

pub text-over : (t : List ℕ) (i : ℕ) → length t ≤ i → chars_text (drop i t) ≡ []
unfolding chars_text text_from
text-over t i h = rw (drop_of_length-le t {i = i} h)

pub text-on :
    (t : List ℕ) (i : ℕ) {n : ℕ} → eqb (byte_at (drop i t) 0) 0x22 ≡ false → n ≡ char_len (drop i t) → 0 < n →
    chars_text (drop i t) ≡ char_text (drop i t) ++ chars_text (drop (i + n) t)
text-on t i e l h =
    rw l
    (text-more (drop i t) e (omega arith) ∙ ap (λ (s : List ℕ). char_text (drop i t) ++ chars_text s) (drop-drop (char_len (drop i t)) i t))

module _ (t : List ℕ) (i : ℕ) (h : i < length t) where
  pub text-closed : get_or t i 0 ≡ 0x22 → chars_text (drop i t) ≡ []
  text-closed e = text-mark (drop i t) (eq-eqb _ 0x22 (front t i h ∙ e))

  pub text-stuck : {n : ℕ} → (get_or t i 0 ≡ 0x22 → ⊥) → n ≡ char_len (drop i t) → n ≡ 0 → chars_text (drop i t) ≡ []
  text-stuck e l z = text-bad (drop i t) (no-mark t i h e) (sym l ∙ z)

pub plain-text : (t : List ℕ) (i : ℕ) → plain (byte_at t i) ≡ true → char_text (drop i t) ≡ byte_at t i ∷ []
unfolding char_text
plain-text t i h = rw (byte-here t i, h)
