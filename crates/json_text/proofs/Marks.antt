-- A string that is known to be one, by its marks alone: what stands behind a backslash is passed over, and the first mark left closes it.
use Rattle.std.specs.Prelude.{None, Option, Some}
use mathlib.Core.Path.{◌≡◌, refl, sym, ◌∙◌, ap}
use mathlib.Core.Bool.{Bool, true, false, ◌&&◌, ◌||◌, cond}
use mathlib.Core.List.{List, [], ◌∷◌}
use Prim.Native.Nat.{ℕ, ◌+◌, ◌≤◌, ◌<◌}
use native.Mathlib.Omega.{arith}
use borrow.Author.Tests.{ne_eqb}
use lib.Dec.{ltb, eqb}
use lib.ListN.{length, drop, get_or}
use lib.Seq.{drop-drop}
use Rattle.json_text.specs.Bytes.{within, plain, tail, first_of_three, first_of_four, hex_of, hex_four, is_scalar, is_high, is_low}
use Rattle.json_text.specs.Grammar.{Char, one, two, three, four, escaped, unicode, pair, Chars, mark, char}
use Rattle.json_text.specs.Work.{chars_rest, to_mark}
use Rattle.rules.proofs.Tests.{ff≢tt, by_cond, or-false-left, or-false-right, eqb-true, eqb-false}
use Rattle.json_text.proofs.Bounds.{byte-at, left_at, left-past}
use Rattle.json_text.proofs.ByteLaws.{three-first, three-second, four-first, four-second}
use Rattle.json_text.proofs.CharsLaws.{rest-chars}
use Rattle.json_text.proofs.Tests.{and-true, within_low}

-- what follows the closing mark, and the same where a backslash stands in front
unfoldable pub marks : List ℕ → Bool → Option (List ℕ)
marks [] e = None
marks (b ∷ s) true = marks s false
marks (b ∷ s) false = cond (eqb b 0x22) (Some s) (marks s (eqb b 0x5C))

abbrev pub marks_rest : List ℕ → Option (List ℕ)
marks_rest s = marks s false

passed : (b : ℕ) (s : List ℕ) → (b ≡ 0x22 → ⊥) → (b ≡ 0x5C → ⊥) → marks_rest (b ∷ s) ≡ marks_rest s
unfolding marks
passed b s m n = rw (ne_eqb b 0x22 m, ne_eqb b 0x5C n)

-- by a test that refuses both marks
test-passed : (f : ℕ → Bool) (b : ℕ) (s : List ℕ) → f 0x22 ≡ false → f 0x5C ≡ false → f b ≡ true → marks_rest (b ∷ s) ≡ marks_rest s
test-passed f b s m n y = passed b s (λ e. ff≢tt (ap f e ∙ m) y) (λ e. ff≢tt (ap f e ∙ n) y)

-- every byte of a UTF-8 char of more than one
high-passed : (b : ℕ) (s : List ℕ) → 0x80 ≤ b → marks_rest (b ∷ s) ≡ marks_rest s
high-passed b s h = passed b s (λ e. omega arith) (λ e. omega arith)

tail-passed : (b : ℕ) (s : List ℕ) → tail b ≡ true → marks_rest (b ∷ s) ≡ marks_rest s
unfolding tail
tail-passed b s h = high-passed b s (within_low 0x80 0xBF b h)

digit-passed : (b : ℕ) (s : List ℕ) → ltb (hex_of b) 16 ≡ true → marks_rest (b ∷ s) ≡ marks_rest s
unfolding hex_of within
digit-passed b s h = test-passed (λ x. ltb (hex_of x) 16) b s refl refl h

abbrev digits : (a b c d : ℕ) → Bool
digits a b c d = ltb (hex_of a) 16 && (ltb (hex_of b) 16 && (ltb (hex_of c) 16 && ltb (hex_of d) 16))

-- four digits, by a test of what they write that refuses 65536
hex-passed :
    (f : ℕ → Bool) (a b c d : ℕ) (s : List ℕ) → f 65536 ≡ false → f (hex_four a b c d) ≡ true →
    marks_rest (a ∷ b ∷ c ∷ d ∷ s) ≡ marks_rest s
unfolding hex_four
hex-passed f a b c d s n y =
    let p = and-true (ltb (hex_of a) 16) _ (all y) in
    let q = and-true (ltb (hex_of b) 16) _ p.1 in
    let r = and-true (ltb (hex_of c) 16) _ q.1 in
    digit-passed a _ p.0 ∙ (digit-passed b _ q.0 ∙ (digit-passed c _ r.0 ∙ digit-passed d s r.1))
  where
    all : f (hex_four a b c d) ≡ true → digits a b c d ≡ true
    all = by_cond (λ (x : ℕ). f x ≡ true → digits a b c d ≡ true) (digits a b c d) (λ e h. e) (λ e h. absurd (ff≢tt n h))

char-passed : {s x r : List ℕ} → Char s x r → marks_rest s ≡ marks_rest r
unfolding marks plain within is_scalar is_high is_low
char-passed (one {a} {r} h) = test-passed plain a r refl refl h
char-passed (two {a} {b} {r} h) =
    let p = and-true (within 0xC2 0xDF a) (tail b) h in
    high-passed a _ (omega (arith, within_low 0xC2 0xDF a p.0)) ∙ tail-passed b r p.1
char-passed (three {a} {b} {c} {r} h) =
    let p = and-true (first_of_three a b) (tail c) h in
    high-passed a _ (omega (arith, three-first a b p.0)) ∙ (high-passed b _ (three-second a b p.0) ∙ tail-passed c r p.1)
char-passed (four {a} {b} {c} {d} {r} h) =
    let p = and-true (first_of_four a b) _ h in
    let q = and-true (tail c) (tail d) p.1 in
    high-passed a _ (omega (arith, four-first a b p.0))
    ∙ (high-passed b _ (four-second a b p.0) ∙ (tail-passed c _ q.0 ∙ tail-passed d r q.1))
char-passed (escaped h) = refl
char-passed (unicode {a} {b} {c} {d} {r} h) = hex-passed is_scalar a b c d r refl h
char-passed (pair {a} {b} {c} {d} {e} {f} {g} {h = i} {r} h) =
    let p = and-true (is_high (hex_four a b c d)) (is_low (hex_four e f g i)) h in
    hex-passed is_high a b c d _ refl p.0 ∙ hex-passed is_low e f g i r refl p.1

chars-marks : {s x r : List ℕ} → Chars s x r → marks_rest s ≡ Some r
unfolding marks
chars-marks mark = refl
chars-marks (char c cs) = char-passed c ∙ chars-marks cs

pub rest-marks : (s r : List ℕ) → chars_rest s ≡ Some r → marks_rest s ≡ Some r
rest-marks s r h = chars-marks (rest-chars s r h).1

behind : (s : List ℕ) → marks s true ≡ marks_rest (drop 1 s)
unfolding marks
behind [] = refl
behind (b ∷ s) = refl

-- up to the next mark or backslash nothing matters
pub marks-found : (s r : List ℕ) → r ≡ to_mark s → marks_rest s ≡ marks_rest r
unfolding to_mark
marks-found [] r e = rw e
marks-found (b ∷ s) r e =
    by_cond
    (λ (x : List ℕ). r ≡ x → marks_rest (b ∷ s) ≡ marks_rest r)
    (eqb b 0x22 || eqb b 0x5C)
    (λ h k. ap marks_rest (sym k))
    (λ h k. passed b s (eqb-false (or-false-left _ _ h)) (eqb-false (or-false-right (eqb b 0x22) _ h)) ∙ marks-found s r k)
    e

-- what is found is a mark or a backslash
found-slash : (s r : List ℕ) (b : ℕ) → b ∷ r ≡ to_mark s → (b ≡ 0x22 → ⊥) → b ≡ 0x5C
unfolding to_mark
found-slash [] r b e m = absurd (let z = ap length e in omega arith)
found-slash (a ∷ s) r b e m =
    by_cond
    (λ (x : List ℕ). b ∷ r ≡ x → b ≡ 0x5C)
    (eqb a 0x22 || eqb a 0x5C)
    (λ h k. let z : b ≡ a = cc in z ∙ eqb-true (sym (ap (λ (x : Bool). x || eqb a 0x5C) (ne_eqb a 0x22 (λ q. m (z ∙ q)))) ∙ h))
    (λ h k. found-slash s r b k m)
    e

-- at a place of a text
pub marks-past : (t : List ℕ) (i : ℕ) → length t ≤ i → marks_rest (drop i t) ≡ None
unfolding marks
marks-past t i h = rw (left-past t i h)

pub to_end : (t : List ℕ) (i : ℕ) → length t ≤ i → to_mark (drop i t) ≡ drop i t
unfolding to_mark
to_end t i h = rw (left-past t i h)

module _ (t : List ℕ) (i : ℕ) (h : i < length t) where
  here : drop i t ≡ get_or t i 0 ∷ drop (i + 1) t
  here = left_at t i h ∙ ap (λ (b : ℕ). b ∷ drop (i + 1) t) (sym (byte-at t i h))

  pub to-mark : get_or t i 0 ≡ 0x22 → to_mark (drop i t) ≡ drop i t
  unfolding to_mark
  to-mark e = rw (here, e)

  pub to-slash : get_or t i 0 ≡ 0x5C → to_mark (drop i t) ≡ drop i t
  unfolding to_mark
  to-slash e = rw (here, e)

  pub to-on : (get_or t i 0 ≡ 0x22 → ⊥) → (get_or t i 0 ≡ 0x5C → ⊥) → to_mark (drop i t) ≡ to_mark (drop (i + 1) t)
  unfolding to_mark
  to-on m n = rw (here, ne_eqb (get_or t i 0) 0x22 m, ne_eqb (get_or t i 0) 0x5C n)

-- where the next mark or backslash of s stands
module _ (t s : List ℕ) (i : ℕ) (f : drop i t ≡ to_mark s) (h : i < length t) where
  pub marks-closed : get_or t i 0 ≡ 0x22 → marks_rest s ≡ Some (drop (i + 1) t)
  unfolding marks
  marks-closed e = rw (marks-found s (drop i t) f, here t i h, e)

  -- no mark, so a backslash
  pub marks-behind : (get_or t i 0 ≡ 0x22 → ⊥) → marks_rest s ≡ marks_rest (drop (i + 1 + 1) t)
  unfolding marks
  marks-behind m =
      rw
      (marks-found s (drop i t) f, here t i h, found-slash s _ (get_or t i 0) (sym (here t i h) ∙ f) m)
      (behind (drop (i + 1) t) ∙ ap marks_rest (drop-drop 1 (i + 1) t))

  -- and it is the last byte
  pub marks-last : length t ≤ i + 1 → (get_or t i 0 ≡ 0x22 → ⊥) → marks_rest s ≡ marks_rest (drop (i + 1) t)
  marks-last k m = marks-behind m ∙ (marks-past t (i + 1 + 1) (omega arith) ∙ sym (marks-past t (i + 1) k))
