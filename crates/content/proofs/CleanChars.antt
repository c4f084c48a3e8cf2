-- The bytes that a string of a text stands for are below FF.
use mathlib.Core.Path.{◌≡◌, refl}
use mathlib.Core.Bool.{Bool, true, false, not, ◌&&◌, ◌||◌}
use mathlib.Core.List.{List}
use Prim.Native.Nat.{ℕ, ◌≤◌, ◌<◌}
use native.Mathlib.Omega.{arith}
use borrow.Author.Tests.{eqb-true, ltb-true}
use lib.Dec.{ltb, eqb}
use Rattle.json_text.specs.Bytes.{within, plain, tail, first_of_three, first_of_four, escape_of, hex_four, is_scalar, is_high, is_low, joined, utf8}
use Rattle.json_text.specs.Grammar.{Char, one, two, three, four, escaped, unicode, pair, Chars, mark, char, Name, name}
use Rattle.rules.proofs.Tests.{by_cond}
use Rattle.content.proofs.Choices.{from-cond}
use Rattle.content.proofs.NumberTexts.{Below, below-append}
use Rattle.json_text.proofs.Tests.{and-true, within-high}

tail-below : (b : ℕ) → tail b ≡ true → b < 255
unfolding tail
tail-below b h = omega (arith, within-high 0x80 0xBF b h)

plain-below : (a : ℕ) → plain a ≡ true → a < 255
unfolding plain
plain-below a h = omega (arith, within-high 0x20 0x7F a (and-true (within 0x20 0x7F a) (not (eqb a 0x22) && not (eqb a 0x5C)) h).0)

within-below : (low high b : ℕ) → high < 255 → within low high b ≡ true → b < 255
within-below low high b l h = omega (arith, within-high low high b h)

-- a first byte in a range, and a tail
range-below : (low high a b : ℕ) → high < 255 → (within low high a && tail b) ≡ true → (a < 255) × (b < 255)
range-below low high a b l h =
    let p = and-true (within low high a) (tail b) h in
    (within-below low high a l p.0, tail-below b p.1)

three-below : (a b : ℕ) → first_of_three a b ≡ true → (a < 255) × (b < 255)
unfolding first_of_three
three-below a b h =
    from-cond (eqb a 0xE0) h (λ e k. (omega (arith, eqb-true a 0xE0 e), within-below 0xA0 0xBF b (omega arith) k))
    (λ e k. from-cond (eqb a 0xED) k (λ f m. (omega (arith, eqb-true a 0xED f), within-below 0x80 0x9F b (omega arith) m))
    (λ f m. range-below 0xE1 0xEF a b (omega arith) m))

four_below : (a b : ℕ) → first_of_four a b ≡ true → (a < 255) × (b < 255)
unfolding first_of_four
four_below a b h =
    from-cond (eqb a 0xF0) h (λ e k. (omega (arith, eqb-true a 0xF0 e), within-below 0x90 0xBF b (omega arith) k))
    (λ e k. from-cond (eqb a 0xF4) k (λ f m. (omega (arith, eqb-true a 0xF4 f), within-below 0x80 0x8F b (omega arith) m))
    (λ f m. range-below 0xF1 0xF3 a b (omega arith) m))

-- what a backslash and a byte stand for
quoted-below : (b : ℕ) → (eqb b 0x22 || (eqb b 0x5C || eqb b 0x2F)) ≡ true → b < 255
quoted-below b h = go (eqb b 0x22) (eqb b 0x5C) refl refl h
  where
    go : (p q : Bool) → eqb b 0x22 ≡ p → eqb b 0x5C ≡ q → (p || (q || eqb b 0x2F)) ≡ true → b < 255
    go true q e f k = omega (arith, eqb-true b 0x22 e)
    go false true e f k = omega (arith, eqb-true b 0x5C f)
    go false false e f k = omega (arith, eqb-true b 0x2F k)

escape-below : (b : ℕ) → escape_of b < 256 → escape_of b < 255
unfolding escape_of
escape-below b =
    by_cond P (eqb b 0x22 || (eqb b 0x5C || eqb b 0x2F)) (λ e h. quoted-below b e)
    (λ e. by_cond P (eqb b 0x62) (λ e h. omega arith)
    (λ e. by_cond P (eqb b 0x66) (λ e h. omega arith)
    (λ e. by_cond P (eqb b 0x6E) (λ e h. omega arith)
    (λ e. by_cond P (eqb b 0x72) (λ e h. omega arith)
    (λ e. by_cond P (eqb b 0x74) (λ e h. omega arith) (λ e h. absurd (omega arith)))))))
  where
    P : ℕ → Type 0
    P n = n < 256 → n < 255

-- UTF-8
utf8-below : (n : ℕ) → n ≤ 0x10FFFF → Below (utf8 n)
unfolding utf8
utf8-below n h =
    by_cond Below (ltb n 0x80) (λ e. (omega (arith, ltb-true n 0x80 e), tt))
    (λ e. by_cond Below (ltb n 0x800) (λ e. let k = ltb-true n 0x800 e in (omega arith, (omega arith, tt)))
    (λ e. by_cond Below (ltb n 0x10000) (λ e. let k = ltb-true n 0x10000 e in (omega arith, (omega arith, (omega arith, tt))))
    (λ e. (omega arith, (omega arith, (omega arith, (omega arith, tt)))))))

scalar_below : (n : ℕ) → is_scalar n ≡ true → n ≤ 0x10FFFF
unfolding is_scalar
scalar_below n h = go (ltb n 0xD800) refl h
  where
    go : (x : Bool) → ltb n 0xD800 ≡ x → (x || within 0xE000 0xFFFF n) ≡ true → n ≤ 0x10FFFF
    go true e k = omega (arith, ltb-true n 0xD800 e)
    go false e k = omega (arith, within-high 0xE000 0xFFFF n k)

pair-below : (m n : ℕ) → (is_high m && is_low n) ≡ true → joined m n ≤ 0x10FFFF
unfolding is_high is_low joined
pair-below m n h =
    let p = and-true (is_high m) (is_low n) h in
    omega (arith, within-high 0xD800 0xDBFF m p.0, within-high 0xDC00 0xDFFF n p.1)

-- ---- a char, a string, a name
char_below : {s x r : List ℕ} → Char s x r → Below x
char_below (one {a} h) = (plain-below a h, tt)
char_below (two {a} {b} h) = let p = range-below 0xC2 0xDF a b (omega arith) h in (p.0, (p.1, tt))
char_below (three {a} {b} {c} h) =
    let p = and-true (first_of_three a b) (tail c) h in
    let q = three-below a b p.0 in
    (q.0, (q.1, (tail-below c p.1, tt)))
char_below (four {a} {b} {c} {d} h) =
    let p = and-true (first_of_four a b) (tail c && tail d) h in
    let q = four_below a b p.0 in
    let t = and-true (tail c) (tail d) p.1 in
    (q.0, (q.1, (tail-below c t.0, (tail-below d t.1, tt))))
char_below (escaped {a} h) = (escape-below a (ltb-true (escape_of a) 256 h), tt)
char_below (unicode {a} {b} {c} {d} h) = utf8-below (hex_four a b c d) (scalar_below (hex_four a b c d) h)
char_below (pair {a} {b} {c} {d} {e} {f} {g} {h = i} h) =
    utf8-below (joined (hex_four a b c d) (hex_four e f g i)) (pair-below (hex_four a b c d) (hex_four e f g i) h)

pub chars-below : {s x r : List ℕ} → Chars s x r → Below x
chars-below mark = tt
chars-below (char {x = x} {y = y} c d) = below-append x y (char_below c) (chars-below d)

pub name_below : {s x r : List ℕ} → Name s x r → Below x
name_below (name c w u) = chars-below c
