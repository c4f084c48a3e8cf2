-- A name's first six bytes as a number, its code; and words, each a code above the place of its name.
use Rattle.std.specs.Prelude.{◌≡◌, List, [], ◌∷◌, ℕ, zero, suc, ◌+◌, ◌*◌, ◌/◌, ◌%◌, ◌^◌, ◌<◌, length, take, drop, get_or}

-- the first byte and one; 0 where there is none
abbrev pub digit : List ℕ → ℕ
digit [] = 0
digit (b ∷ x) = b + 1

-- the digits of the first n bytes behind those of a number
unfoldable pub code_from : (n code : ℕ) → List ℕ → ℕ
code_from zero code x = code
code_from (suc n) code x = code_from n (code * 256 + digit x) (drop 1 x)

-- those of a name that bytes hold
abbrev pub Digits : ℕ → List ℕ → Type 0
Digits zero x = Unit {0}
Digits (suc n) x = (digit x < 256) × Digits n (drop 1 x)

pub record CodeOf (x : List ℕ) (code : ℕ) : Type 0 where
  pub is : code ≡ code_from 6 0 x
  pub digits : Digits 6 x
  pub fits : code < 2 ^ 48

-- a word's place is its lowest sixteen bits
abbrev pub place_in : ℕ → ℕ
place_in w = w % 65536

-- the name at that place
abbrev pub name_of : (name : ℕ → List ℕ) → ℕ → List ℕ
name_of name w = name (place_in w)

abbrev pub Coded : (name : ℕ → List ℕ) → ℕ → Type 0
Coded name w = CodeOf (name_of name w) (w / 65536)

abbrev pub AllCoded : (name : ℕ → List ℕ) → List ℕ → Type 0
AllCoded name x = (i : ℕ) → i < length x → Coded name (get_or x i 0)

-- a place made a word, and a word made a place
abbrev pub WordOf : (name : ℕ → List ℕ) → (p w : ℕ) → Type 0
WordOf name p w = (place_in w ≡ p) × Coded name w

abbrev pub PlaceOf : (w p : ℕ) → Type 0
PlaceOf w p = p ≡ place_in w

-- w is v but for the n places from one on, where R says what each was made
pub record Made (R : ℕ → ℕ → Type 0) (v : List ℕ) (from n : ℕ) (w : List ℕ) : Type 0 where
  pub size : length w ≡ length v
  pub each : (i : ℕ) → i < n → R (get_or v (from + i) 0) (get_or w (from + i) 0)
  pub below : take from w ≡ take from v
  pub above : drop (from + n) w ≡ drop (from + n) v
