-- What the code reads off the front of bytes s, as functions. The proofs show that they read what the grammar has.
use Rattle.std.specs.Prelude.{◌≡◌, Bool, ◌&&◌, ◌||◌, cond, List, [], ◌∷◌, ℕ, zero, suc, ◌+◌, ◌-◌, ◌^◌, ◌≤◌, ◌<◌, ltb, eqb, length, take, drop, get_or}
use Rattle.std.specs.Prelude.{Option, Some, None}
use Rattle.json_text.specs.Refusals.{all_digits, decimal}
use Rattle.json_text.specs.Bytes.{within, is_ws, is_digit, plain, tail, first_of_three, first_of_four, escape_of, hex_four, is_scalar, is_high, is_low}

-- the byte at a place, 256 behind the last
abbrev pub byte_at : List ℕ → ℕ → ℕ
byte_at s i = get_or s i 256

-- behind leading ws, and behind leading digits
unfoldable pub skip_ws : List ℕ → List ℕ
skip_ws [] = []
skip_ws (b ∷ s) = cond (is_ws b) (skip_ws s) (b ∷ s)

unfoldable pub skip_digits : List ℕ → List ℕ
skip_digits [] = []
skip_digits (b ∷ s) = cond (is_digit b) (skip_digits s) (b ∷ s)

abbrev pub hex_at : List ℕ → ℕ → ℕ
hex_at s i = hex_four (byte_at s i) (byte_at s (i + 1)) (byte_at s (i + 2)) (byte_at s (i + 3))

-- how many bytes the char takes that s begins with; 0 where it begins with none
unfoldable pub pair_len : List ℕ → ℕ
pair_len s =
    cond (is_high (hex_at s 2) && (eqb (byte_at s 6) 0x5C && (eqb (byte_at s 7) 0x75 && is_low (hex_at s 8)))) 12 0

unfoldable pub escape_len : List ℕ → ℕ
escape_len s =
    cond (ltb (escape_of (byte_at s 1)) 256) 2
    (cond (eqb (byte_at s 1) 0x75) (cond (is_scalar (hex_at s 2)) 6 (pair_len s))
    0)

unfoldable pub utf8_len : List ℕ → ℕ
utf8_len s =
    cond (within 0xC2 0xDF (byte_at s 0) && tail (byte_at s 1)) 2
    (cond (first_of_three (byte_at s 0) (byte_at s 1) && tail (byte_at s 2)) 3
    (cond (first_of_four (byte_at s 0) (byte_at s 1) && (tail (byte_at s 2) && tail (byte_at s 3))) 4
    0))

abbrev pub special_len : List ℕ → ℕ
special_len s = cond (eqb (byte_at s 0) 0x5C) (escape_len s) (utf8_len s)

unfoldable pub char_len : List ℕ → ℕ
char_len s = cond (plain (byte_at s 0)) 1 (special_len s)

-- what follows a string's closing mark; n bounds how many chars are read
unfoldable pub chars_from : ℕ → List ℕ → Option (List ℕ)
chars_from zero s = None
chars_from (suc n) s =
    cond (eqb (byte_at s 0) 0x22) (Some (drop 1 s)) (cond (eqb (char_len s) 0) None (chars_from n (drop (char_len s) s)))

unfoldable pub chars_rest : List ℕ → Option (List ℕ)
chars_rest s = chars_from (length s) s

-- from the first mark or backslash on
unfoldable pub to_mark : List ℕ → List ℕ
to_mark [] = []
to_mark (b ∷ s) = cond (eqb b 0x22 || eqb b 0x5C) (b ∷ s) (to_mark s)

-- in front of the first FF
unfoldable pub up_to_ff : List ℕ → List ℕ
up_to_ff [] = []
up_to_ff (b ∷ s) = cond (eqb b 0xFF) [] (b ∷ up_to_ff s)

-- numbers: at the longest
unfoldable pub digits1_rest : List ℕ → Option (List ℕ)
digits1_rest s = cond (is_digit (byte_at s 0)) (Some (skip_digits (drop 1 s))) None

unfoldable pub skip_minus : List ℕ → List ℕ
skip_minus s = cond (eqb (byte_at s 0) 0x2D) (drop 1 s) s

unfoldable pub skip_sign : List ℕ → List ℕ
skip_sign s = cond (eqb (byte_at s 0) 0x2D || eqb (byte_at s 0) 0x2B) (drop 1 s) s

unfoldable pub int_rest : List ℕ → Option (List ℕ)
int_rest s =
    cond (eqb (byte_at s 0) 0x30) (Some (drop 1 s)) (cond (within 0x31 0x39 (byte_at s 0)) (Some (skip_digits (drop 1 s))) None)

unfoldable pub frac_rest : List ℕ → Option (List ℕ)
frac_rest s = cond (eqb (byte_at s 0) 0x2E) (digits1_rest (drop 1 s)) (Some s)

unfoldable pub exp_rest : List ℕ → Option (List ℕ)
exp_rest s = cond (eqb (byte_at s 0) 0x65 || eqb (byte_at s 0) 0x45) (digits1_rest (skip_sign (drop 1 s))) (Some s)

abbrev pub and_then : Option (List ℕ) → (List ℕ → Option (List ℕ)) → Option (List ℕ)
and_then None f = None
and_then (Some r) f = f r

unfoldable pub number_rest : List ℕ → Option (List ℕ)
number_rest s = and_then (and_then (int_rest (skip_minus s)) frac_rest) exp_rest

-- a byte by which a number in front of it may go on
unfoldable pub goes_on : ℕ → Bool
goes_on b = is_digit b || (eqb b 0x2E || (eqb b 0x65 || eqb b 0x45))

-- the bytes in front of r
abbrev pub up_to : (r s : List ℕ) → List ℕ
up_to r s = take (length s - length r) s

-- null, true or false
unfoldable pub word_rest : List ℕ → List ℕ → Option (List ℕ)
word_rest [] s = Some s
word_rest (w ∷ ws) s = cond (eqb (byte_at s 0) w) (word_rest ws (drop 1 s)) None

unfoldable pub literal_rest : List ℕ → Option (List ℕ)
literal_rest s =
    cond (eqb (byte_at s 0) 0x6E) (word_rest (0x75 ∷ 0x6C ∷ 0x6C ∷ []) (drop 1 s))
    (cond (eqb (byte_at s 0) 0x74) (word_rest (0x72 ∷ 0x75 ∷ 0x65 ∷ []) (drop 1 s))
    (cond (eqb (byte_at s 0) 0x66) (word_rest (0x61 ∷ 0x6C ∷ 0x73 ∷ 0x65 ∷ []) (drop 1 s))
    None))

-- a name, its colon and the ws behind that
unfoldable pub colon_rest : List ℕ → Option (List ℕ)
colon_rest s = cond (eqb (byte_at s 0) 0x3A) (Some (skip_ws (drop 1 s))) None

unfoldable pub name_rest : List ℕ → Option (List ℕ)
name_rest s = cond (eqb (byte_at s 0) 0x22) (and_then (chars_rest (drop 1 s)) (λ r. colon_rest (skip_ws r))) None

-- what a run of digits writes, where it fits 64 bits
unfoldable pub decimal_of : List ℕ → Option ℕ
decimal_of x = cond (all_digits x && ltb (decimal 0 x) (2 ^ 64)) (Some (decimal 0 x)) None

-- what the code reads as an option: a length, of which 0 says that there is none
abbrev pub Long : ℕ → Option ℕ → Type 0
Long n (Some m) = (n ≡ m) × (0 < m)
Long n None = n ≡ 0

-- and a number below a limit, which says that there is none
abbrev pub Below : (limit n : ℕ) → Option ℕ → Type 0
Below limit n (Some m) = (n ≡ m) × (m < limit)
Below limit n None = n ≡ limit

-- what an end says: the bytes from there on
abbrev pub rest_of : List ℕ → Option ℕ → Option (List ℕ)
rest_of t (Some e) = Some (drop e t)
rest_of t None = None

abbrev pub Beyond : List ℕ → ℕ → Option ℕ → Type 0
Beyond t low (Some e) = (low ≤ e) × (e ≤ length t)
Beyond t low None = Unit {0}

-- an end in t, at low or behind it, where what is left is o
pub record Ends (t : List ℕ) (low : ℕ) (o : Option (List ℕ)) (r : Option ℕ) : Type 0 where
  pub rest : rest_of t r ≡ o
  pub beyond : Beyond t low r
