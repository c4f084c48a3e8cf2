-- A string of the grammar is one that chars_rest reads, and stands for one run of bytes.
use Rattle.std.specs.Prelude.{Some}
use mathlib.Core.Path.{◌≡◌, refl, sym, ◌∙◌, ap, subst}
use mathlib.Core.Bool.{Bool, true, false}
use mathlib.Core.List.{List, [], ◌∷◌, ◌++◌}
use Prim.Native.Nat.{ℕ, zero, suc, ◌≤◌, ◌<◌}
use native.Mathlib.Omega.{arith}
use lib.Dec.{eqb}
use lib.ListN.{length, drop, length-drop}
use borrow.Author.Tests.{eqb-true}
use Rattle.json_text.specs.Grammar.{Char, Chars, mark, char}
use Rattle.json_text.specs.Work.{byte_at, char_len, chars_rest, chars_from}
use Rattle.rules.proofs.Tests.{ff≢tt}
use Rattle.json_text.proofs.ByteLaws.{byte-front}
use Rattle.json_text.proofs.CharLaws.{char-len, len-char, char-front, char-one}
use Rattle.json_text.proofs.CharSteps.{chars-mark, chars-more, chars-bad}

pub chars_rest_lem : {s x r : List ℕ} → Chars s x r → chars_rest s ≡ Some r
chars_rest_lem (mark {r}) = chars-mark (0x22 ∷ r) refl
chars_rest_lem (char {s} c cs) =
    chars-more s (char-front c) (char-len c).0 ∙ (ap chars_rest (sym (char-len c).1) ∙ chars_rest_lem cs)

nothing_read : (r : List ℕ) → chars_rest [] ≡ Some r → ⊥
unfolding chars_rest chars_from
nothing_read r h = let z : ◌≡◌ {A = ℕ} 0 1 = cc in omega arith

abbrev Read : List ℕ → List ℕ → Type 0
Read s r = (x : List ℕ) × Chars s x r

read-mark : (s r : List ℕ) → chars_rest s ≡ Some r → eqb (byte_at s 0) 0x22 ≡ true → Read s r
read-mark s r h e =
    let c = chars-mark s e in
    let q : drop 1 s ≡ r = cc in
    let f = byte-front s 0x22 (omega arith) (eqb-true (byte_at s 0) 0x22 e) in
    ([], subst (λ (l : List ℕ). Chars l [] r) (sym f) (subst (λ (l : List ℕ). Chars (0x22 ∷ drop 1 s) [] l) q mark))

read-char : (s r : List ℕ) → 0 < char_len s → Read (drop (char_len s) s) r → Read s r
read-char s r h t = let c = len-char s h in (c.0 ++ t.0, char c.1 t.1)

-- n bounds how many bytes there are
read : (n : ℕ) (s r : List ℕ) → length s ≤ n → chars_rest s ≡ Some r → Read s r
read zero [] r l h = absurd (nothing_read r h)
read zero (b ∷ s) r l h = absurd (omega arith)
read (suc n) s r l h = go (eqb (byte_at s 0) 0x22) refl (λ k e. read n (drop (char_len s) s) r k e)
  where
    more :
        (k : ℕ) → char_len s ≡ k → eqb (byte_at s 0) 0x22 ≡ false →
        (length (drop (char_len s) s) ≤ n → chars_rest (drop (char_len s) s) ≡ Some r → Read (drop (char_len s) s) r) → Read s r
    more zero p e again = absurd (let b = chars-bad s e p in let z : ◌≡◌ {A = ℕ} 0 1 = cc in omega arith)
    more (suc k) p e again =
        let g : 0 < char_len s = omega arith in
        read-char s r g (again (omega (arith, length-drop (char_len s) s)) (sym (chars-more s e g) ∙ h))

    go :
        (b : Bool) → eqb (byte_at s 0) 0x22 ≡ b →
        (length (drop (char_len s) s) ≤ n → chars_rest (drop (char_len s) s) ≡ Some r → Read (drop (char_len s) s) r) → Read s r
    go true e again = read-mark s r h e
    go false e again = more (char_len s) refl e again

pub rest-chars : (s r : List ℕ) → chars_rest s ≡ Some r → (x : List ℕ) × Chars s x r
rest-chars s r h = read (length s) s r (omega arith) h

chars-ended : {s x r : List ℕ} → Chars s x r → eqb (byte_at s 0) 0x22 ≡ true → x ≡ []
chars-ended mark e = refl
chars-ended (char c cs) e = absurd (ff≢tt (char-front c) e)

-- what a string has behind its first char
chars-behind : {s x t y r : List ℕ} → Char s x t → Chars s y r → (z : List ℕ) × (y ≡ x ++ z) × Chars t z r
chars-behind c mark = absurd (ff≢tt (char-front c) refl)
chars-behind {s} {x} {t} c (char {x = x'} {t = t'} {y = z} {r} d ds) =
    let q : t' ≡ t = (char-len d).1 ∙ sym (char-len c).1 in
    (z, ap (λ (l : List ℕ). l ++ z) (char-one d c), subst (λ (l : List ℕ). Chars l z r) q ds)

pub chars-one : {s x r y q : List ℕ} → Chars s x r → Chars s y q → x ≡ y
chars-one mark d = sym (chars-ended d refl)
chars-one (char {x} c cs) d =
    let b = chars-behind c d in ap (λ (l : List ℕ). x ++ l) (chars-one cs b.2) ∙ sym b.1
