-- Request 4 of document 02: the answers 15, 16 and 17, for whatever bytes come. The quoted words are the request's.
use Rattle.std.specs.Prelude.{◌≡◌, Bool, true, false, ◌&&◌, cond, List, [], ◌∷◌, ℕ, zero, suc, ◌+◌, ◌-◌, ◌*◌, ◌^◌, ◌≤◌, ◌<◌, ltb, eqb, length}
use Rattle.json_text.specs.Bytes.{within, is_digit}
use Rattle.json_text.specs.Grammar.{Text}
use Rattle.json_text.specs.Values.{Value, null, boolean, number, string, array, object}
use Rattle.json_text.specs.Values.{Items, no_items, item, Members, no_members, member}

-- "one JSON message (RFC 8259) of up to 32,768 bytes"
abbrev pub longest : ℕ
longest = 32768

unfoldable pub all_digits : List ℕ → Bool
all_digits [] = true
all_digits (b ∷ s) = is_digit b && all_digits s

-- the number that the digits write, behind those that wrote n
unfoldable pub decimal : ℕ → List ℕ → ℕ
decimal n [] = n
decimal n (b ∷ s) = decimal (n * 10 + (b - 0x30)) s

-- "Numbers are whole, without fraction or exponent, from −2^63 to 2^64 − 1, and minus zero is refused."
unfoldable pub allowed : List ℕ → Bool
allowed [] = false
allowed (b ∷ s) =
    cond (eqb b 0x2D)
    (all_digits s && within 1 (2 ^ 63) (decimal 0 s))
    (all_digits (b ∷ s) && ltb (decimal 0 (b ∷ s)) (2 ^ 64))

-- "16 number outside the rule"; 0 where it is not
unfoldable pub number_fault : List ℕ → ℕ
number_fault x = cond (allowed x) 0 16

-- "17 arrays and objects nested deeper than 16": of one that d others enclose
unfoldable pub depth_fault : ℕ → ℕ
depth_fault d = cond (ltb d 16) 0 17

unfoldable pub first : ℕ → ℕ → ℕ
first zero n = n
first (suc m) n = suc m

-- "the first by position of these last two": of a value that d arrays and objects enclose; 0 where there is none
unfoldable mutual
  pub fault : ℕ → Value → ℕ
  fault d null = 0
  fault d (boolean b) = 0
  fault d (number x) = number_fault x
  fault d (string x) = 0
  fault d (array vs) = first (depth_fault d) (items_fault (suc d) vs)
  fault d (object ms) = first (depth_fault d) (members_fault (suc d) ms)

  pub items_fault : ℕ → Items → ℕ
  items_fault d no_items = 0
  items_fault d (item v vs) = first (fault d v) (items_fault d vs)

  pub members_fault : ℕ → Members → ℕ
  members_fault d no_members = 0
  members_fault d (member x v ms) = first (fault d v) (members_fault d ms)

-- "15 longer than 32,768 bytes or not one JSON text; 16 number outside the rule; 17 arrays and objects nested deeper than 16,
-- the first by position of these last two counting after 15"; 0 where none of them holds
pub data Judged (t : List ℕ) : ℕ → Type 0 where
  too_long : longest < length t → Judged t 15
  no_text : ((v : Value) → Text t v → ⊥) → Judged t 15
  judged : {v : Value} {n : ℕ} → length t ≤ longest → Text t v → fault 0 v ≡ n → Judged t n
