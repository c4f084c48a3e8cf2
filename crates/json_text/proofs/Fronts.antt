-- The byte that a value begins with, and the bytes that follow one.
use mathlib.Core.Path.{◌≡◌, refl, sym, ◌∙◌}
use mathlib.Core.Bool.{Bool, true, false, ◌||◌}
use mathlib.Core.List.{List, ◌∷◌}
use Prim.Native.Nat.{ℕ, ◌≤◌}
use native.Mathlib.Omega.{arith}
use lib.Dec.{eqb}
use borrow.Author.Tests.{eqb-true, ne_eqb}
use Rattle.json_text.specs.Bytes.{within, is_ws, is_digit}
use Rattle.json_text.specs.Numbers.{Number}
use Rattle.json_text.specs.Values.{Value, Items, Members}
use Rattle.json_text.specs.Grammar.{Ws, no_ws, ws, Name, name, Val, MoreItems, MoreMembers, end_array, next_item, end_object, next_member}
use Rattle.json_text.specs.Grammar.{a_null, a_true, a_false, a_number, a_string, empty_array, an_array, empty_object, an_object}
use Rattle.json_text.specs.Work.{byte_at}
use Rattle.json_text.proofs.Tests.{within_low, outside_low}
use Rattle.json_text.proofs.Spaces.{ws-skips, skip-front}
use Rattle.json_text.proofs.NumberLaws.{number-front}
use Rattle.json_text.specs.Work.{goes_on}

or_right : (a b : Bool) → b ≡ true → (a || b) ≡ true
or_right true b e = refl
or_right false b e = e

or_cases : (P : Type 0) (a b : Bool) → (a ≡ true → P) → (b ≡ true → P) → (a || b) ≡ true → P
or_cases P true b f g e = f refl
or_cases P false b f g e = g e

-- a number's first byte, and a value's
unfoldable pub starts_number : ℕ → Bool
starts_number b = eqb b 0x2D || is_digit b

unfoldable pub starts : ℕ → Bool
starts b =
    eqb b 0x6E || (eqb b 0x74 || (eqb b 0x66 || (eqb b 0x22 || (eqb b 0x5B || (eqb b 0x7B || starts_number b)))))

pub number-begins : {s r : List ℕ} → Number s r → starts_number (byte_at s 0) ≡ true
unfolding starts_number
number-begins n = number-front n

number-starts : (b : ℕ) → starts_number b ≡ true → starts b ≡ true
unfolding starts
number-starts b h =
    or_right (eqb b 0x6E) _ (or_right (eqb b 0x74) _ (or_right (eqb b 0x66) _ (or_right (eqb b 0x22) _
    (or_right (eqb b 0x5B) _ (or_right (eqb b 0x7B) _ h)))))

pub val-starts : {s r : List ℕ} {v : Value} → Val s v r → starts (byte_at s 0) ≡ true
unfolding starts starts_number
val-starts a_null = refl
val-starts a_true = refl
val-starts a_false = refl
val-starts (a_number {s} n e) = number-starts (byte_at s 0) (number-begins n)
val-starts (a_string c) = refl
val-starts (empty_array w) = refl
val-starts (an_array w v m) = refl
val-starts (empty_object w) = refl
val-starts (an_object w n v m) = refl

pub starts-low : (b : ℕ) → starts b ≡ true → 0x22 ≤ b
unfolding starts starts_number is_digit
starts-low b =
    is 0x6E _ (omega arith) (is 0x74 _ (omega arith) (is 0x66 _ (omega arith) (is 0x22 _ (omega arith)
    (is 0x5B _ (omega arith) (is 0x7B _ (omega arith) (is 0x2D _ (omega arith)
    (λ h. let l = within_low 0x30 0x39 b h in omega arith)))))))
  where
    is : (c : ℕ) (t : Bool) → 0x22 ≤ c → (t ≡ true → 0x22 ≤ b) → (eqb b c || t) ≡ true → 0x22 ≤ b
    is c t l f = or_cases (0x22 ≤ b) (eqb b c) t (λ e. let q = eqb-true b c e in omega arith) f

pub ws-low : (b : ℕ) → is_ws b ≡ true → b ≤ 0x20
unfolding is_ws
ws-low b =
    is 0x20 _ (omega arith) (is 0x09 _ (omega arith) (is 0x0A _ (omega arith) (λ e. let q = eqb-true b 0x0D e in omega arith)))
  where
    is : (c : ℕ) (t : Bool) → c ≤ 0x20 → (t ≡ true → b ≤ 0x20) → (eqb b c || t) ≡ true → b ≤ 0x20
    is c t l f = or_cases (b ≤ 0x20) (eqb b c) t (λ e. let q = eqb-true b c e in omega arith) f

above-ws : (b : ℕ) → 0x21 ≤ b → is_ws b ≡ false
unfolding is_ws
above-ws b h = rw (ne_eqb b 0x20 (λ e. omega arith), ne_eqb b 0x09 (λ e. omega arith), ne_eqb b 0x0A (λ e. omega arith), ne_eqb b 0x0D (λ e. omega arith))

-- no value begins with ws
pub val-ws : {s r : List ℕ} {v : Value} → Val s v r → is_ws (byte_at s 0) ≡ false
val-ws {s} v = let l = starts-low (byte_at s 0) (val-starts v) in above-ws (byte_at s 0) (omega arith)

-- nor does a name
pub name-mark : {s x r : List ℕ} → Name s x r → byte_at s 0 ≡ 0x22
name-mark (name c w u) = refl

pub name-ws : {s x r : List ℕ} → Name s x r → is_ws (byte_at s 0) ≡ false
unfolding is_ws
name-ws (name c w u) = refl

-- what leading ws leaves is one thing
pub ws-one : {s t u : List ℕ} → Ws s t → Ws s u → is_ws (byte_at t 0) ≡ false → is_ws (byte_at u 0) ≡ false → t ≡ u
ws-one {s} {t} {u} w z h k = sym (ws-skips w ∙ skip-front t h) ∙ (ws-skips z ∙ skip-front u k)

-- and where it is a byte other than ws, that byte and what follows
pub ws-same : {s t u : List ℕ} {a b : ℕ} → Ws s (a ∷ t) → Ws s (b ∷ u) → is_ws a ≡ false → is_ws b ≡ false → (a ≡ b) × (t ≡ u)
ws-same w z h k = let q = ws-one w z h k in (cc, cc)

-- a number in front of ws does not go on, nor in front of what follows a value in an array or object
low-ends : (b : ℕ) → b ≤ 0x20 → goes_on b ≡ false
unfolding goes_on is_digit
low-ends b h =
    rw (outside_low 0x30 0x39 b (omega arith), ne_eqb b 0x2E (λ e. omega arith), ne_eqb b 0x65 (λ e. omega arith), ne_eqb b 0x45 (λ e. omega arith))

pub ws-ends : {s r : List ℕ} → Ws s r → goes_on (byte_at r 0) ≡ false → goes_on (byte_at s 0) ≡ false
ws-ends no_ws h = h
ws-ends (ws {b} e w) h = low-ends b (ws-low b e)

pub items-ends : {s r : List ℕ} {vs : Items} → MoreItems s vs r → goes_on (byte_at s 0) ≡ false
unfolding goes_on is_digit within
items-ends (end_array w) = ws-ends w refl
items-ends (next_item w z v m) = ws-ends w refl

pub members-ends : {s r : List ℕ} {ms : Members} → MoreMembers s ms r → goes_on (byte_at s 0) ≡ false
unfolding goes_on is_digit within
members-ends (end_object w) = ws-ends w refl
members-ends (next_member w z n v m) = ws-ends w refl
