-- The bytes that a string stands for, one char at a time.
use mathlib.Core.Path.{◌≡◌, refl, ◌∙◌, ap}
use mathlib.Core.Bool.{Bool, true, false, ◌&&◌}
use mathlib.Core.List.{List, [], ◌∷◌, ◌++◌}
use Prim.Native.Nat.{ℕ, zero, suc, ◌≤◌, ◌<◌}
use native.Mathlib.Omega.{arith}
use borrow.Author.Tests.{eqb-false, eq-eqb, ne_eqb}
use lib.Dec.{eqb}
use lib.ListN.{length, drop, length-drop}
use Rattle.json_text.specs.Bytes.{within, plain, tail, first_of_three, first_of_four, escape_of, hex_four, is_high, is_low}
use Rattle.json_text.specs.Grammar.{Char, one, two, three, four, escaped, unicode, pair, Chars, mark, char}
use Rattle.json_text.specs.Work.{byte_at, char_len, utf8_len}
use Rattle.json_text.proofs.Bounds.{byte_past}
use Rattle.json_text.proofs.ByteLaws.{plain-above, three-first, four-first, above-three, high_scalar}
use Rattle.json_text.proofs.CharLaws.{char-len, char-front}
use Rattle.json_text.proofs.CharSteps.{char-fits}
use Rattle.json_text.proofs.Tests.{within_low, outside_high}
use Rattle.rules.proofs.Tests.{and-true-left}
use Rattle.member_order.specs.Names.{escape_text, char_text, text_from, chars_text}

-- a char of the grammar stands for what char_text reads
two-text : (a b : ℕ) (r : List ℕ) → (within 0xC2 0xDF a && tail b) ≡ true → char_text (a ∷ b ∷ r) ≡ a ∷ b ∷ []
unfolding char_text utf8_len
two-text a b r h =
    let l = within_low 0xC2 0xDF a (and-true-left (within 0xC2 0xDF a) (tail b) h) in
    rw (plain-above a (omega arith), ne_eqb a 0x5C (λ e. omega arith), h)

three-text : (a b c : ℕ) (r : List ℕ) → (first_of_three a b && tail c) ≡ true → char_text (a ∷ b ∷ c ∷ r) ≡ a ∷ b ∷ c ∷ []
unfolding char_text utf8_len
three-text a b c r h =
    let l = three-first a b (and-true-left (first_of_three a b) (tail c) h) in
    rw (plain-above a (omega arith), ne_eqb a 0x5C (λ e. omega arith), outside_high 0xC2 0xDF a (omega arith), h)

four-text :
    (a b c d : ℕ) (r : List ℕ) → (first_of_four a b && (tail c && tail d)) ≡ true → char_text (a ∷ b ∷ c ∷ d ∷ r) ≡ a ∷ b ∷ c ∷ d ∷ []
unfolding char_text utf8_len
four-text a b c d r h =
    let l = four-first a b (and-true-left (first_of_four a b) (tail c && tail d) h) in
    rw (plain-above a (omega arith), ne_eqb a 0x5C (λ e. omega arith), outside_high 0xC2 0xDF a (omega arith), above-three a b l, h)

pub char-text : {s x r : List ℕ} → Char s x r → char_text s ≡ x
unfolding char_text escape_text plain within escape_of
char-text (one h) = rw h
char-text (two {a} {b} {r} h) = two-text a b r h
char-text (three {a} {b} {c} {r} h) = three-text a b c r h
char-text (four {a} {b} {c} {d} {r} h) = four-text a b c d r h
char-text (escaped h) = rw h
char-text (unicode h) = rw h
char-text (pair {a} {b} {c} {d} {e} {f} {g} {h} k) =
    rw (high_scalar (hex_four a b c d) (and-true-left (is_high (hex_four a b c d)) (is_low (hex_four e f g h)) k))

-- more chars than there are bytes are never read
from_past : (n : ℕ) (s : List ℕ) → length s ≤ 0 → text_from n s ≡ []
unfolding text_from
from_past zero s h = refl
from_past (suc n) s h = rw (byte_past s 0 h, eq-eqb (char_len s) 0 (omega (arith, char-fits s)))

from-same : (n m : ℕ) (s : List ℕ) → length s ≤ n → length s ≤ m → text_from n s ≡ text_from m s
unfolding text_from
from-same zero m s h k = rw (from_past m s h)
from-same (suc n) zero s h k = from_past (suc n) s k
from-same (suc n) (suc m) s h k = go (eqb (char_len s) 0) refl (from-same n m (drop (char_len s) s))
  where
    go : (b : Bool) → eqb (char_len s) 0 ≡ b
        → (length (drop (char_len s) s) ≤ n → length (drop (char_len s) s) ≤ m → text_from n (drop (char_len s) s) ≡ text_from m (drop (char_len s) s))
        → text_from (suc n) s ≡ text_from (suc m) s
    go true e r = rw e
    go false e r =
        let z : char_len s ≡ 0 → ⊥ = eqb-false (char_len s) 0 e in
        rw (r (simp length-drop (omega arith)) (simp length-drop (omega arith)))

pub text-mark : (s : List ℕ) → eqb (byte_at s 0) 0x22 ≡ true → chars_text s ≡ []
unfolding chars_text text_from
text-mark [] h = refl
text-mark (b ∷ s) h = rw h

pub text-bad : (s : List ℕ) → eqb (byte_at s 0) 0x22 ≡ false → char_len s ≡ 0 → chars_text s ≡ []
unfolding chars_text text_from
text-bad [] h k = refl
text-bad (b ∷ s) h k = rw (h, eq-eqb (char_len (b ∷ s)) 0 k)

pub text-more :
    (s : List ℕ) → eqb (byte_at s 0) 0x22 ≡ false → 0 < char_len s → chars_text s ≡ char_text s ++ chars_text (drop (char_len s) s)
unfolding chars_text text_from
text-more [] h k = absurd (omega (arith, char-fits []))
text-more (b ∷ s) h k =
    rw (h, ne_eqb (char_len (b ∷ s)) 0 (λ z. omega arith))
    (ap (λ (l : List ℕ). char_text (b ∷ s) ++ l)
    (from-same (length s) (length (drop (char_len (b ∷ s)) (b ∷ s))) _ (simp length-drop (omega arith)) (omega arith)))

pub chars-text : {s x r : List ℕ} → Chars s x r → chars_text s ≡ x
chars-text (mark {r}) = text-mark (0x22 ∷ r) refl
chars-text (char {s} c cs) =
    text-more s (char-front c) (char-len c).0 ∙ cc (char-text c, (char-len c).1, chars-text cs)
