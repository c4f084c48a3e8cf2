-- The text of a number: bytes below FF, at least one.
use mathlib.Core.Path.{◌≡◌, refl, ap}
use mathlib.Core.Bool.{Bool, true, false, ◌||◌}
use mathlib.Core.List.{List, [], ◌∷◌, ◌++◌}
use Prim.Native.Nat.{ℕ, ◌≤◌, ◌<◌}
use native.Mathlib.Omega.{arith}
use borrow.Author.Tests.{eqb-true}
use lib.Dec.{eqb}
use lib.ListN.{length, length-append}
use Rattle.json_text.specs.Numbers.{Digits, no_digits, digit, Digits1, digits, Minus, no_minus, minus, Int, zero, from_one}
use Rattle.json_text.specs.Numbers.{Frac, no_frac, frac, Sign, no_sign, negative, positive, Exp, no_exp, exp, Number, number}
use Rattle.json_text.proofs.Tests.{within-high, digit-high}

-- bytes below FF
abbrev pub Below : List ℕ → Type 0
Below [] = Unit {0}
Below (b ∷ x) = (b < 255) × Below x

pub below-append : (x y : List ℕ) → Below x → Below y → Below (x ++ y)
below-append [] y h k = k
below-append (b ∷ x) y h k = (h.0, below-append x y h.1 k)

-- s begins with bytes below FF, and r is what follows them
pub data Took : List ℕ → List ℕ → Type 0 where
  none : {r : List ℕ} → Took r r
  more : (b : ℕ) {s r : List ℕ} → b < 255 → Took s r → Took (b ∷ s) r

then : {s t r : List ℕ} → Took s t → Took t r → Took s r
then none q = q
then (more b h p) q = more b h (then p q)

took-length : {s r : List ℕ} → Took s r → length r ≤ length s
took-length none = omega arith
took-length (more b h t) = omega (arith, took-length t)

took-below : {s r : List ℕ} (x : List ℕ) → Took s r → s ≡ x ++ r → Below x
took-below [] t e = tt
took-below {r = r} (c ∷ x) none e = absurd (omega (arith, ap length e, length-append x r))
took-below {r = r} (c ∷ x) (more b {s} h t) e =
    let p : b ≡ c = cc in
    let q : s ≡ x ++ r = cc in
    (rw p at h, took-below x t q)

took-digits : {s r : List ℕ} → Digits s r → Took s r
took-digits no_digits = none
took-digits (digit {b} h d) = more b (omega (arith, digit-high b h)) (took-digits d)

took-digits1 : {s r : List ℕ} → Digits1 s r → Took s r
took-digits1 (digits {b} h d) = more b (omega (arith, digit-high b h)) (took-digits d)

took-minus : {s r : List ℕ} → Minus s r → Took s r
took-minus no_minus = none
took-minus minus = more 0x2D (omega arith) none

took-int : {s r : List ℕ} → Int s r → Took s r
took-int zero = more 0x30 (omega arith) none
took-int (from_one {b} h d) = more b (omega (arith, within-high 0x31 0x39 b h)) (took-digits d)

took-frac : {s r : List ℕ} → Frac s r → Took s r
took-frac no_frac = none
took-frac (frac d) = more 0x2E (omega arith) (took-digits1 d)

took-sign : {s r : List ℕ} → Sign s r → Took s r
took-sign no_sign = none
took-sign negative = more 0x2D (omega arith) none
took-sign positive = more 0x2B (omega arith) none

e-below : (b : ℕ) → (eqb b 0x65 || eqb b 0x45) ≡ true → b < 255
e-below b h = go (eqb b 0x65) refl h
  where
    go : (x : Bool) → eqb b 0x65 ≡ x → (x || eqb b 0x45) ≡ true → b < 255
    go true e k = omega (arith, eqb-true b 0x65 e)
    go false e k = omega (arith, eqb-true b 0x45 k)

took-exp : {s r : List ℕ} → Exp s r → Took s r
took-exp no_exp = none
took-exp (exp {b} h g d) = more b (e-below b h) (then (took-sign g) (took-digits1 d))

int-longer : {s r : List ℕ} → Int s r → length r < length s
int-longer zero = omega arith
int-longer (from_one h d) = omega (arith, took-length (took-digits d))

pub number-below : {s r : List ℕ} (x : List ℕ) → Number s r → s ≡ x ++ r → Below x
number-below x (number m i f e) q = took-below x (then (took-minus m) (then (took-int i) (then (took-frac f) (took-exp e)))) q

pub number-longer : {s r : List ℕ} → Number s r → length r < length s
number-longer (number m i f e) =
    omega (arith, took-length (took-minus m), int-longer i, took-length (took-frac f), took-length (took-exp e))
