-- The first byte of a value, and of what may follow one.
use mathlib.Core.Path.{◌≡◌, refl, ap}
use mathlib.Core.Bool.{Bool, true, false, ◌||◌}
use mathlib.Core.List.{List, [], ◌∷◌}
use Prim.Native.Nat.{ℕ, zero, suc}
use native.Mathlib.Omega.{arith}
use lib.Dec.{eqb}
use lib.ListN.{drop}
use borrow.Author.Tests.{eqb-true, ne_eqb}
use Rattle.json_text.specs.Bytes.{within, is_ws, is_digit}
use Rattle.json_text.specs.Grammar.{Val}
use Rattle.json_text.specs.Grammar.{a_null, a_true, a_false, a_number, a_string, empty_array, an_array, empty_object, an_object}
use Rattle.json_text.specs.Refusals.{first}
use Rattle.json_text.specs.Values.{Value}
use Rattle.json_text.specs.Work.{byte_at}
use Rattle.json_text.proofs.NumberLaws.{number-front}

-- ---- the first of faults
pub first-zero : (g : ℕ) → first g 0 ≡ g
unfolding first
first-zero zero = refl
first-zero (suc g) = refl

pub first-assoc : (a b c : ℕ) → first (first a b) c ≡ first a (first b c)
unfolding first
first-assoc zero b c = refl
first-assoc (suc a) b c = refl

-- ---- bytes apart
-- a byte that passes a test is none that fails it
pub apart : (t : ℕ → Bool) (b c : ℕ) → t b ≡ true → t c ≡ false → eqb b c ≡ false
apart t b c p q = ne_eqb b c (λ e. let h : t b ≡ t c = ap t e in let z : ◌≡◌ {A = ℕ} 0 1 = cc in omega arith)

-- what begins a number
unfoldable pub numeric : ℕ → Bool
numeric b = eqb b 0x2D || is_digit b

none_of : (a b c d : Bool) → a ≡ false → b ≡ false → c ≡ false → d ≡ false → (a || (b || (c || d))) ≡ false
none_of a b c d p q r s = rw (p, q, r, s)

numeric-ws : (b : ℕ) → numeric b ≡ true → is_ws b ≡ false
unfolding numeric is_ws is_digit within
numeric-ws b h =
    none_of (eqb b 0x20) (eqb b 0x09) (eqb b 0x0A) (eqb b 0x0D)
    (apart numeric b 0x20 h refl) (apart numeric b 0x09 h refl) (apart numeric b 0x0A h refl) (apart numeric b 0x0D h refl)

-- ---- the front of a value
-- the first byte of a value is no ws, and none of ] }
pub record Front (b : ℕ) : Type 0 where
  pub no-space : is_ws b ≡ false
  pub no-bracket : eqb b 0x5D ≡ false
  pub no-brace : eqb b 0x7D ≡ false

numeric-front : (b : ℕ) → numeric b ≡ true → Front b
unfolding numeric is_digit within
numeric-front b h =
    record {
      no-space = numeric-ws b h;
      no-bracket = apart numeric b 0x5D h refl;
      no-brace = apart numeric b 0x7D h refl;
    }

pub val-front : {s r : List ℕ} {v : Value} → Val s v r → Front (byte_at s 0)
unfolding is_ws numeric
val-front a_null = record { no-space = refl; no-bracket = refl; no-brace = refl }
val-front a_true = record { no-space = refl; no-bracket = refl; no-brace = refl }
val-front a_false = record { no-space = refl; no-bracket = refl; no-brace = refl }
val-front (a_number n e) = numeric-front _ (number-front n)
val-front (a_string c) = record { no-space = refl; no-bracket = refl; no-brace = refl }
val-front (empty_array w) = record { no-space = refl; no-bracket = refl; no-brace = refl }
val-front (an_array w v m) = record { no-space = refl; no-bracket = refl; no-brace = refl }
val-front (empty_object w) = record { no-space = refl; no-bracket = refl; no-brace = refl }
val-front (an_object w n v m) = record { no-space = refl; no-bracket = refl; no-brace = refl }

-- a name begins with a quotation mark
-- bytes that begin with c
pub begins : (s : List ℕ) (c : ℕ) → eqb 256 c ≡ false → eqb (byte_at s 0) c ≡ true → s ≡ c ∷ drop 1 s
begins [] c h e = absurd (let z : ◌≡◌ {A = ℕ} 0 1 = cc in omega arith)
begins (b ∷ s) c h e = ap {B = List ℕ} (λ x. x ∷ s) (eqb-true b c e)
