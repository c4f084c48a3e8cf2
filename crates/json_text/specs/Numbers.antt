-- RFC 8259, section 6, number. `P s r` says that the bytes s begin with a P, and that r is what follows it.
use Rattle.std.specs.Prelude.{◌≡◌, true, ◌||◌, List, ◌∷◌, ℕ, eqb}
use Rattle.json_text.specs.Bytes.{within, is_digit}

-- *DIGIT
pub data Digits : List ℕ → List ℕ → Type 0 where
  no_digits : {r : List ℕ} → Digits r r
  digit : {b : ℕ} {s r : List ℕ} → is_digit b ≡ true → Digits s r → Digits (b ∷ s) r

-- 1*DIGIT
pub data Digits1 : List ℕ → List ℕ → Type 0 where
  digits : {b : ℕ} {s r : List ℕ} → is_digit b ≡ true → Digits s r → Digits1 (b ∷ s) r

-- [ minus ]
pub data Minus : List ℕ → List ℕ → Type 0 where
  no_minus : {r : List ℕ} → Minus r r
  minus : {r : List ℕ} → Minus (0x2D ∷ r) r

-- int = zero / ( digit1-9 *DIGIT )
pub data Int : List ℕ → List ℕ → Type 0 where
  zero : {r : List ℕ} → Int (0x30 ∷ r) r
  from_one : {b : ℕ} {s r : List ℕ} → within 0x31 0x39 b ≡ true → Digits s r → Int (b ∷ s) r

-- [ frac ], frac = decimal-point 1*DIGIT
pub data Frac : List ℕ → List ℕ → Type 0 where
  no_frac : {r : List ℕ} → Frac r r
  frac : {s r : List ℕ} → Digits1 s r → Frac (0x2E ∷ s) r

-- [ minus / plus ]
pub data Sign : List ℕ → List ℕ → Type 0 where
  no_sign : {r : List ℕ} → Sign r r
  negative : {r : List ℕ} → Sign (0x2D ∷ r) r
  positive : {r : List ℕ} → Sign (0x2B ∷ r) r

-- [ exp ], exp = e [ minus / plus ] 1*DIGIT, e = %x65 / %x45
pub data Exp : List ℕ → List ℕ → Type 0 where
  no_exp : {r : List ℕ} → Exp r r
  exp : {b : ℕ} {s t r : List ℕ} → (eqb b 0x65 || eqb b 0x45) ≡ true → Sign s t → Digits1 t r → Exp (b ∷ s) r

-- number = [ minus ] int [ frac ] [ exp ]
pub data Number : List ℕ → List ℕ → Type 0 where
  number : {s a b c r : List ℕ} → Minus s a → Int a b → Frac b c → Exp c r → Number s r
