-- A char of the grammar is one that char_len counts, and stands for one run of bytes.
use mathlib.Core.Path.{◌≡◌, refl, sym, ◌∙◌}
use mathlib.Core.Bool.{false, ◌&&◌, not}
use mathlib.Core.List.{List}
use Prim.Native.Nat.{ℕ, ◌<◌}
use native.Mathlib.Omega.{arith}
use lib.Dec.{ltb, eqb}
use lib.ListN.{drop}
use borrow.Author.Tests.{ne_eqb, not-true}
use Rattle.json_text.specs.Bytes.{within, plain, tail, first_of_three, first_of_four, escape_of, is_scalar, is_high, is_low}
use Rattle.json_text.specs.Grammar.{Char, one, two, three, four, escaped, unicode, pair}
use Rattle.json_text.specs.Work.{byte_at, hex_at, char_len, escape_len, pair_len, utf8_len}
use Rattle.rules.proofs.Tests.{and-true-left, and-true-right, by_cond}
use Rattle.json_text.proofs.Tests.{within_low}
use Rattle.json_text.proofs.ByteLaws.{three-first, four-first}
use Rattle.json_text.proofs.CharFound.{Found, found-one, found-two, found-three, found-four, found-escaped, found-unicode, found-pair}
use Rattle.json_text.proofs.CharKinds.{kind_of, picked, len_of, text_of, len-picked, text-kind}

len-kind : {s x r : List ℕ} (c : Char s x r) → char_len s ≡ len_of (kind_of c)
len-kind {s} c = len-picked s ∙ picked len_of c

-- what follows a char, by its kind
kind-rest : {s x r : List ℕ} (c : Char s x r) → (0 < len_of (kind_of c)) × (r ≡ drop (len_of (kind_of c)) s)
kind-rest (one h) = (omega arith, refl)
kind-rest (two h) = (omega arith, refl)
kind-rest (three h) = (omega arith, refl)
kind-rest (four h) = (omega arith, refl)
kind-rest (escaped h) = (omega arith, refl)
kind-rest (unicode h) = (omega arith, refl)
kind-rest (pair h) = (omega arith, refl)

pub char-len : {s x r : List ℕ} → Char s x r → (0 < char_len s) × (r ≡ drop (char_len s) s)
char-len c = rw (len-kind c) (kind-rest c)

pub len-char : (s : List ℕ) → 0 < char_len s → (x : List ℕ) × Char s x (drop (char_len s) s)
unfolding char_len escape_len pair_len utf8_len
len-char s =
    by_cond P (plain (byte_at s 0)) (λ e h. found-one s e)
    (λ n. by_cond P (eqb (byte_at s 0) 0x5C)
    (λ a. by_cond P (ltb (escape_of (byte_at s 1)) 256) (λ e h. found-escaped s a e)
    (λ m. by_cond P (eqb (byte_at s 1) 0x75)
    (λ b. by_cond P (is_scalar (hex_at s 2)) (λ e h. found-unicode s a b e)
    (λ k. by_cond P (is_high (hex_at s 2) && (eqb (byte_at s 6) 0x5C && (eqb (byte_at s 7) 0x75 && is_low (hex_at s 8))))
    (λ e h. found-pair s a b e)
    none))
    none))
    (λ m. by_cond P (within 0xC2 0xDF (byte_at s 0) && tail (byte_at s 1)) (λ e h. found-two s e)
    (λ k. by_cond P (first_of_three (byte_at s 0) (byte_at s 1) && tail (byte_at s 2)) (λ e h. found-three s e)
    (λ l. by_cond P (first_of_four (byte_at s 0) (byte_at s 1) && (tail (byte_at s 2) && tail (byte_at s 3))) (λ e h. found-four s e)
    none))))
  where
    P : ℕ → Type 0
    P n = 0 < n → Found s n

    none : {A : Type 0} → A → P 0
    none a h = absurd (omega arith)

-- no char begins with a quotation mark
pub char-front : {s x r : List ℕ} → Char s x r → eqb (byte_at s 0) 0x22 ≡ false
unfolding plain
char-front (one {a} h) =
    not-true (eqb a 0x22) (and-true-left (not (eqb a 0x22)) (not (eqb a 0x5C)) (and-true-right (within 0x20 0x7F a) (not (eqb a 0x22) && not (eqb a 0x5C)) h))
char-front (two {a} {b} h) =
    let l = within_low 0xC2 0xDF a (and-true-left (within 0xC2 0xDF a) (tail b) h) in ne_eqb a 0x22 (λ e. omega arith)
char-front (three {a} {b} {c} h) =
    let l = three-first a b (and-true-left (first_of_three a b) (tail c) h) in ne_eqb a 0x22 (λ e. omega arith)
char-front (four {a} {b} {c} {d} h) =
    let l = four-first a b (and-true-left (first_of_four a b) (tail c && tail d) h) in ne_eqb a 0x22 (λ e. omega arith)
char-front (escaped h) = refl
char-front (unicode h) = refl
char-front (pair h) = refl

pub char-one : {s x r y q : List ℕ} → Char s x r → Char s y q → x ≡ y
char-one {s} c d = sym (text-kind c) ∙ (sym (picked (text_of s) c) ∙ (picked (text_of s) d ∙ text-kind d))
