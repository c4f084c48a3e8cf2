-- What a value is, by its first byte; and what follows in an array or object, by the byte behind ws.
use mathlib.Core.Path.{◌≡◌, refl, sym, ap, subst}
use mathlib.Core.Bool.{true, false, ◌||◌}
use mathlib.Core.List.{List, ◌∷◌}
use Prim.Native.Nat.{ℕ, ◌<◌}
use native.Mathlib.Omega.{arith}
use lib.Dec.{eqb}
use lib.ListN.{drop}
use Rattle.json_text.specs.Bytes.{within, is_ws, is_digit}
use Rattle.json_text.specs.Numbers.{Number}
use Rattle.json_text.specs.Values.{Value, null, boolean, number, string, array, object}
use Rattle.json_text.specs.Values.{Items, no_items, item, Members, no_members, member}
use Rattle.json_text.specs.Grammar.{Ws, Chars, Name, Val, MoreItems, MoreMembers, end_array, next_item, end_object, next_member}
use Rattle.json_text.specs.Grammar.{a_null, a_true, a_false, a_number, a_string, empty_array, an_array, empty_object, an_object}
use Rattle.json_text.specs.Work.{byte_at, up_to}
use Rattle.rules.proofs.Tests.{ff≢tt}
use Rattle.json_text.proofs.ByteLaws.{byte-front}
use Rattle.json_text.proofs.Fronts.{starts_number, starts, number-begins, val-starts, val-ws, name-mark, name-ws, ws-one, ws-same}
use Rattle.json_text.proofs.NumberLaws.{up-to-append}

-- behind [ and behind {
pub data ArrayRest : List ℕ → Value → List ℕ → Type 0 where
  no_item : {s r : List ℕ} → Ws s (0x5D ∷ r) → ArrayRest s (array no_items) r
  some-items :
      {s t u r : List ℕ} {v : Value} {vs : Items} →
      Ws s t → Val t v u → MoreItems u vs r → ArrayRest s (array (item v vs)) r

pub data ObjectRest : List ℕ → Value → List ℕ → Type 0 where
  no_member : {s r : List ℕ} → Ws s (0x7D ∷ r) → ObjectRest s (object no_members) r
  some-members :
      {s t x u w r : List ℕ} {v : Value} {ms : Members} →
      Ws s t → Name t x u → Val u v w → MoreMembers w ms r → ObjectRest s (object (member x v ms)) r

-- from an item on, to the ], and from a member on, to the }
pub data ItemsAt : List ℕ → Items → List ℕ → Type 0 where
  at_item : {s t r : List ℕ} {v : Value} {vs : Items} → Val s v t → MoreItems t vs r → ItemsAt s (item v vs) r

pub data MembersAt : List ℕ → Members → List ℕ → Type 0 where
  at-member :
      {s x t u r : List ℕ} {v : Value} {ms : Members} →
      Name s x t → Val t v u → MoreMembers u ms r → MembersAt s (member x v ms) r

-- none of these begins a number
no_number : {s r : List ℕ} → Number s r → starts_number (byte_at s 0) ≡ false → ⊥
no_number n h = ff≢tt h (number-begins n)

null-rest : {s r : List ℕ} {v : Value} → Val (0x6E ∷ s) v r → (v ≡ null) × (s ≡ 0x75 ∷ 0x6C ∷ 0x6C ∷ r)
unfolding starts_number is_digit within
null-rest a_null = (refl, refl)
null-rest (a_number n e) = absurd (no_number n refl)

true-rest : {s r : List ℕ} {v : Value} → Val (0x74 ∷ s) v r → (v ≡ boolean true) × (s ≡ 0x72 ∷ 0x75 ∷ 0x65 ∷ r)
unfolding starts_number is_digit within
true-rest a_true = (refl, refl)
true-rest (a_number n e) = absurd (no_number n refl)

false-rest : {s r : List ℕ} {v : Value} → Val (0x66 ∷ s) v r → (v ≡ boolean false) × (s ≡ 0x61 ∷ 0x6C ∷ 0x73 ∷ 0x65 ∷ r)
unfolding starts_number is_digit within
false-rest a_false = (refl, refl)
false-rest (a_number n e) = absurd (no_number n refl)

string-rest : {s r : List ℕ} {v : Value} → Val (0x22 ∷ s) v r → (x : List ℕ) × (v ≡ string x) × Chars s x r
unfolding starts_number is_digit within
string-rest (a_string {x} c) = (x, refl, c)
string-rest (a_number n e) = absurd (no_number n refl)

array-rest : {s r : List ℕ} {v : Value} → Val (0x5B ∷ s) v r → ArrayRest s v r
unfolding starts_number is_digit within
array-rest (empty_array w) = no_item w
array-rest (an_array w v m) = some-items w v m
array-rest (a_number n e) = absurd (no_number n refl)

object-rest : {s r : List ℕ} {v : Value} → Val (0x7B ∷ s) v r → ObjectRest s v r
unfolding starts_number is_digit within
object-rest (empty_object w) = no_member w
object-rest (an_object w n v m) = some-members w n v m
object-rest (a_number n e) = absurd (no_number n refl)

module _ {s r : List ℕ} {v : Value} (d : Val s v r) where
  begins : (b : ℕ) → b < 256 → byte_at s 0 ≡ b → Val (b ∷ drop 1 s) v r
  begins b h e = subst (λ (l : List ℕ). Val l v r) (byte-front s b h e) d

  pub val-null : byte_at s 0 ≡ 0x6E → (v ≡ null) × (drop 1 s ≡ 0x75 ∷ 0x6C ∷ 0x6C ∷ r)
  val-null e = null-rest (begins 0x6E (omega arith) e)

  pub val-true : byte_at s 0 ≡ 0x74 → (v ≡ boolean true) × (drop 1 s ≡ 0x72 ∷ 0x75 ∷ 0x65 ∷ r)
  val-true e = true-rest (begins 0x74 (omega arith) e)

  pub val-false : byte_at s 0 ≡ 0x66 → (v ≡ boolean false) × (drop 1 s ≡ 0x61 ∷ 0x6C ∷ 0x73 ∷ 0x65 ∷ r)
  val-false e = false-rest (begins 0x66 (omega arith) e)

  pub val-string : byte_at s 0 ≡ 0x22 → (x : List ℕ) × (v ≡ string x) × Chars (drop 1 s) x r
  val-string e = string-rest (begins 0x22 (omega arith) e)

  pub val-array : byte_at s 0 ≡ 0x5B → ArrayRest (drop 1 s) v r
  val-array e = array-rest (begins 0x5B (omega arith) e)

  pub val-object : byte_at s 0 ≡ 0x7B → ObjectRest (drop 1 s) v r
  val-object e = object-rest (begins 0x7B (omega arith) e)

-- a number is the bytes that it takes
pub val-number : {s r : List ℕ} {v : Value} → Val s v r → starts_number (byte_at s 0) ≡ true → (v ≡ number (up_to r s)) × Number s r
unfolding starts_number is_digit within
val-number a_null h = absurd (ff≢tt refl h)
val-number a_true h = absurd (ff≢tt refl h)
val-number a_false h = absurd (ff≢tt refl h)
val-number (a_number {s} {x} {r} n e) h = (rw e (ap number (sym (up-to-append x r))), n)
val-number (a_string c) h = absurd (ff≢tt refl h)
val-number (empty_array w) h = absurd (ff≢tt refl h)
val-number (an_array w v m) h = absurd (ff≢tt refl h)
val-number (empty_object w) h = absurd (ff≢tt refl h)
val-number (an_object w n v m) h = absurd (ff≢tt refl h)

-- nothing else begins a value
pub no-val : {s r : List ℕ} {v : Value} → Val s v r → starts (byte_at s 0) ≡ false → ⊥
no-val d h = ff≢tt h (val-starts d)

-- an array by what stands behind the ws: ] or the first item
pub array-ends : {s r q : List ℕ} {v : Value} → ArrayRest s v r → Ws s (0x5D ∷ q) → (v ≡ array no_items) × (r ≡ q)
unfolding is_ws starts starts_number is_digit within
array-ends (no_item w) z = (refl, (ws-same w z refl refl).1)
array-ends (some-items w d m) z = absurd (no-val d (ap (λ (l : List ℕ). starts (byte_at l 0)) (ws-one w z (val-ws d) refl)))

pub array-items :
    {s t r : List ℕ} {v : Value} →
    ArrayRest s v r → Ws s t → is_ws (byte_at t 0) ≡ false → eqb (byte_at t 0) 0x5D ≡ false → (vs : Items) × (v ≡ array vs) × ItemsAt t vs r
unfolding is_ws
array-items (no_item w) z h n = absurd (ff≢tt n (ap (λ (l : List ℕ). eqb (byte_at l 0) 0x5D) (ws-one z w h refl)))
array-items (some-items {u} {v} {vs} w d m) z h n =
    (item v vs, refl, at_item (subst (λ (l : List ℕ). Val l v u) (ws-one w z (val-ws d) h) d) m)

-- what follows an item: ] or , and an item
pub items-front :
    {s t r : List ℕ} {vs : Items} →
    MoreItems s vs r → Ws s t → is_ws (byte_at t 0) ≡ false → (eqb (byte_at t 0) 0x2C || eqb (byte_at t 0) 0x5D) ≡ true
unfolding is_ws
items-front (end_array w) z h = ap (λ (l : List ℕ). eqb (byte_at l 0) 0x2C || eqb (byte_at l 0) 0x5D) (ws-one z w h refl)
items-front (next_item w y d m) z h = ap (λ (l : List ℕ). eqb (byte_at l 0) 0x2C || eqb (byte_at l 0) 0x5D) (ws-one z w h refl)

pub items-end : {s r q : List ℕ} {vs : Items} → MoreItems s vs r → Ws s (0x5D ∷ q) → (vs ≡ no_items) × (r ≡ q)
unfolding is_ws
items-end (end_array w) z = (refl, (ws-same w z refl refl).1)
items-end (next_item w y d m) z = absurd (let e = (ws-same w z refl refl).0 in omega arith)

pub items-next :
    {s t u r : List ℕ} {vs : Items} →
    MoreItems s vs r → Ws s (0x2C ∷ t) → Ws t u → is_ws (byte_at u 0) ≡ false → ItemsAt u vs r
unfolding is_ws
items-next (end_array w) z y h = absurd (let e = (ws-same w z refl refl).0 in omega arith)
items-next (next_item {u = k} {w = o} {v} w x d m) z y h =
    let e = ws-one (subst (λ (l : List ℕ). Ws l k) (ws-same w z refl refl).1 x) y (val-ws d) h in
    at_item (subst (λ (l : List ℕ). Val l v o) e d) m

-- an object by what stands behind the ws: } or the first member
pub object-ends : {s r q : List ℕ} {v : Value} → ObjectRest s v r → Ws s (0x7D ∷ q) → (v ≡ object no_members) × (r ≡ q)
unfolding is_ws
object-ends (no_member w) z = (refl, (ws-same w z refl refl).1)
object-ends (some-members w n d m) z =
    absurd (let e = ap (λ (l : List ℕ). byte_at l 0) (ws-one w z (name-ws n) refl) in let f = name-mark n in omega arith)

pub object-members :
    {s t r : List ℕ} {v : Value} →
    ObjectRest s v r → Ws s t → is_ws (byte_at t 0) ≡ false → eqb (byte_at t 0) 0x7D ≡ false → (ms : Members) × (v ≡ object ms) × MembersAt t ms r
unfolding is_ws
object-members (no_member w) z h n = absurd (ff≢tt n (ap (λ (l : List ℕ). eqb (byte_at l 0) 0x7D) (ws-one z w h refl)))
object-members (some-members {x} {u} {v} {ms} w n d m) z h k =
    (member x v ms, refl, at-member (subst (λ (l : List ℕ). Name l x u) (ws-one w z (name-ws n) h) n) d m)

-- what follows a member: } or , and a member
pub members-front :
    {s t r : List ℕ} {ms : Members} →
    MoreMembers s ms r → Ws s t → is_ws (byte_at t 0) ≡ false → (eqb (byte_at t 0) 0x2C || eqb (byte_at t 0) 0x7D) ≡ true
unfolding is_ws
members-front (end_object w) z h = ap (λ (l : List ℕ). eqb (byte_at l 0) 0x2C || eqb (byte_at l 0) 0x7D) (ws-one z w h refl)
members-front (next_member w y n d m) z h = ap (λ (l : List ℕ). eqb (byte_at l 0) 0x2C || eqb (byte_at l 0) 0x7D) (ws-one z w h refl)

pub members-end : {s r q : List ℕ} {ms : Members} → MoreMembers s ms r → Ws s (0x7D ∷ q) → (ms ≡ no_members) × (r ≡ q)
unfolding is_ws
members-end (end_object w) z = (refl, (ws-same w z refl refl).1)
members-end (next_member w y n d m) z = absurd (let e = (ws-same w z refl refl).0 in omega arith)

pub members-next :
    {s t u r : List ℕ} {ms : Members} →
    MoreMembers s ms r → Ws s (0x2C ∷ t) → Ws t u → is_ws (byte_at u 0) ≡ false → MembersAt u ms r
unfolding is_ws
members-next (end_object w) z y h = absurd (let e = (ws-same w z refl refl).0 in omega arith)
members-next (next_member {u = k} {x} {w = o} w p n d m) z y h =
    let e = ws-one (subst (λ (l : List ℕ). Ws l k) (ws-same w z refl refl).1 p) y (name-ws n) h in
    at-member (subst (λ (l : List ℕ). Name l x o) e n) d m
