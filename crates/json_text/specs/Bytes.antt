-- Bytes of a JSON text (RFC 8259) and of UTF-8 (RFC 3629). A byte is a number below 256.
use Rattle.std.specs.Prelude.{Bool, not, ◌&&◌, ◌||◌, cond, List, [], ◌∷◌, ℕ, ◌+◌, ◌-◌, ◌*◌, ◌/◌, ◌%◌, leb, ltb, eqb}

-- %x_low-HIGH
unfoldable pub within : (low high b : ℕ) → Bool
within low high b = leb low b && leb b high

-- one of %x20 / %x09 / %x0_a / %x0_d
unfoldable pub is_ws : ℕ → Bool
is_ws b = eqb b 0x20 || (eqb b 0x09 || (eqb b 0x0A || eqb b 0x0D))

unfoldable pub is_digit : ℕ → Bool
is_digit b = within 0x30 0x39 b

-- unescaped and of one byte: %x20-21 / %x23-5B / %x5_d-7F
unfoldable pub plain : ℕ → Bool
plain b = within 0x20 0x7F b && (not (eqb b 0x22) && not (eqb b 0x5C))

-- UTF8-tail = %x80-BF
unfoldable pub tail : ℕ → Bool
tail b = within 0x80 0xBF b

-- the first two of three bytes: %x_e0 %x_a0-BF / %x_e1-EC UTF8-tail / %x_ed %x80-9F / %x_ee-EF UTF8-tail
unfoldable pub first_of_three : ℕ → ℕ → Bool
first_of_three a b =
    cond (eqb a 0xE0) (within 0xA0 0xBF b)
    (cond (eqb a 0xED) (within 0x80 0x9F b)
    (within 0xE1 0xEF a && tail b))

-- the first two of four bytes: %x_f0 %x90-BF / %x_f1-F3 UTF8-tail / %x_f4 %x80-8F
unfoldable pub first_of_four : ℕ → ℕ → Bool
first_of_four a b =
    cond (eqb a 0xF0) (within 0x90 0xBF b)
    (cond (eqb a 0xF4) (within 0x80 0x8F b)
    (within 0xF1 0xF3 a && tail b))

-- what stands for the byte behind a backslash: ", \ and / for themselves, b, f, n, r, t; 256 where none does
unfoldable pub escape_of : ℕ → ℕ
escape_of b =
    cond (eqb b 0x22 || (eqb b 0x5C || eqb b 0x2F)) b
    (cond (eqb b 0x62) 0x08
    (cond (eqb b 0x66) 0x0C
    (cond (eqb b 0x6E) 0x0A
    (cond (eqb b 0x72) 0x0D
    (cond (eqb b 0x74) 0x09
    256)))))

-- HEXDIG of either case; 16 where it is none
unfoldable pub hex_of : ℕ → ℕ
hex_of b =
    cond (within 0x30 0x39 b) (b - 0x30)
    (cond (within 0x41 0x46 b) (b - 0x37)
    (cond (within 0x61 0x66 b) (b - 0x57)
    16))

-- 4HEXDIG; 65536 where one is none
unfoldable pub hex_four : (a b c d : ℕ) → ℕ
hex_four a b c d =
    cond (ltb (hex_of a) 16 && (ltb (hex_of b) 16 && (ltb (hex_of c) 16 && ltb (hex_of d) 16)))
    (((hex_of a * 16 + hex_of b) * 16 + hex_of c) * 16 + hex_of d)
    65536

-- a code point of four digits that is no surrogate, and the two halves of a pair
unfoldable pub is_scalar : ℕ → Bool
is_scalar n = ltb n 0xD800 || within 0xE000 0xFFFF n

unfoldable pub is_high : ℕ → Bool
is_high n = within 0xD800 0xDBFF n

unfoldable pub is_low : ℕ → Bool
is_low n = within 0xDC00 0xDFFF n

unfoldable pub joined : (high low : ℕ) → ℕ
joined high low = 0x10000 + (high - 0xD800) * 0x400 + (low - 0xDC00)

-- the UTF-8 bytes of a code point
unfoldable pub utf8 : ℕ → List ℕ
utf8 n =
    cond (ltb n 0x80) (n ∷ [])
    (cond (ltb n 0x800) ((0xC0 + n / 64) ∷ (0x80 + n % 64) ∷ [])
    (cond (ltb n 0x10000) ((0xE0 + n / 4096) ∷ (0x80 + n / 64 % 64) ∷ (0x80 + n % 64) ∷ [])
    ((0xF0 + n / 262144) ∷ (0x80 + n / 4096 % 64) ∷ (0x80 + n / 64 % 64) ∷ (0x80 + n % 64) ∷ [])))
