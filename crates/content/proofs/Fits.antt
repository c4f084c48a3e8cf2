-- The canonical bytes of a message are at most five for each of its bytes.
use mathlib.Core.Path.{◌≡◌, refl, ap}
use mathlib.Core.List.{List, [], ◌∷◌, ◌++◌}
use Prim.Native.Nat.{ℕ, zero, suc, ◌+◌, ◌*◌, ◌/◌, ◌≤◌}
use native.Mathlib.Omega.{arith}
use lib.Dec.{ltb}
use lib.ListN.{length, length-append}
use Rattle.json_text.specs.Bytes.{utf8, joined, hex_four}
use Rattle.json_text.specs.Canonical.{little_endian, items, members, canonical, canonical_items, canonical_members}
use Rattle.json_text.specs.Content.{before, put, content, contents, sorted}
use Rattle.content.specs.Theorems.{Fits}
use Rattle.json_text.specs.Grammar.{Ws, no_ws, ws, Char, one, two, three, four, escaped, unicode, pair, Chars, mark, char, Name, name}
use Rattle.json_text.specs.Grammar.{Val, a_null, a_true, a_false, a_number, a_string, empty_array, an_array, empty_object, an_object}
use Rattle.json_text.specs.Grammar.{MoreItems, end_array, next_item, MoreMembers, end_object, next_member, text}
use Rattle.json_text.specs.Values.{Value, array, object}
use Rattle.json_text.specs.Values.{Items, no_items, item, Members, no_members, member}
use Rattle.rules.proofs.Tests.{by_cond}
use Rattle.content.proofs.NumberTexts.{number-longer}

-- ---- the parts of a text
ws-length : {s r : List ℕ} → Ws s r → length r ≤ length s
ws-length no_ws = omega arith
ws-length (ws h w) = omega (arith, ws-length w)

utf8-length : (n : ℕ) → length (utf8 n) ≤ 4
unfolding utf8
utf8-length n =
    by_cond P (ltb n 0x80) (λ e. omega arith)
    (λ e. by_cond P (ltb n 0x800) (λ e. omega arith) (λ e. by_cond P (ltb n 0x10000) (λ e. omega arith) (λ e. omega arith)))
  where
    P : List ℕ → Type 0
    P x = length x ≤ 4

char-length : {s x r : List ℕ} → Char s x r → length x + length r ≤ length s
char-length (one h) = omega arith
char-length (two h) = omega arith
char-length (three h) = omega arith
char-length (four h) = omega arith
char-length (escaped h) = omega arith
char-length (unicode {a} {b} {c} {d} h) = omega (arith, utf8-length (hex_four a b c d))
char-length (pair {a} {b} {c} {d} {e} {f} {g} {h = i} h) = omega (arith, utf8-length (joined (hex_four a b c d) (hex_four e f g i)))

chars-length : {s x r : List ℕ} → Chars s x r → length x + 1 + length r ≤ length s
chars-length mark = omega arith
chars-length (char {x = x} {y = y} c d) = omega (arith, length-append x y, char-length c, chars-length d)

pub name-length : {s x r : List ℕ} → Name s x r → length x + 3 + length r ≤ length s
name-length (name c w u) = omega (arith, chars-length c, ws-length w, ws-length u)

-- ---- the parts of canonical bytes
little-length : (k n : ℕ) → length (little_endian k n) ≡ k
unfolding little_endian
little-length zero n = refl
little-length (suc k) n = ap suc (little-length k (n / 256))

marked-length : (x : List ℕ) → length (x ++ 0xFF ∷ []) ≡ length x + 1
marked-length x = length-append x (0xFF ∷ [])

pub array-length : (vs : Items) → length (canonical (array vs)) ≡ 9 + length (canonical_items vs)
unfolding canonical
array-length vs = omega (arith, length-append (little_endian 8 (items vs)) (canonical_items vs), little-length 8 (items vs))

pub object-length : (ms : Members) → length (canonical (object ms)) ≡ 9 + length (canonical_members ms)
unfolding canonical
object-length ms = omega (arith, length-append (little_endian 8 (members ms)) (canonical_members ms), little-length 8 (members ms))

pub item-length : (v : Value) (vs : Items) → length (canonical_items (item v vs)) ≡ length (canonical v) + length (canonical_items vs)
unfolding canonical_items
item-length v vs = length-append (canonical v) (canonical_items vs)

pub member-length :
    (x : List ℕ) (v : Value) (ms : Members) →
    length (canonical_members (member x v ms)) ≡ length x + 1 + length (canonical v) + length (canonical_members ms)
unfolding canonical_members
member-length x v ms =
    omega (arith, length-append x (0xFF ∷ (canonical v ++ canonical_members ms)), length-append (canonical v) (canonical_members ms))

-- a member put among others makes them longer by itself at most
put-length :
    (x : List ℕ) (v : Value) (ms : Members) →
    length (canonical_members (put x v ms)) ≤ length x + 1 + length (canonical v) + length (canonical_members ms)
unfolding put
put-length x v no_members = omega (arith, member-length x v no_members)
put-length x v (member y w ms) =
    let h = put-length x v ms in
    let k = member-length y w ms in
    by_cond P (before x y) (λ e. omega (arith, member-length x v (member y w ms)))
    (λ e. by_cond P (before y x) (λ e. omega (arith, member-length y w (put x v ms))) (λ e. omega arith))
  where
    P : Members → Type 0
    P r = length (canonical_members r) ≤ length x + 1 + length (canonical v) + length (canonical_members (member y w ms))

-- ---- a value
mutual
  unfolding canonical canonical_items canonical_members content contents sorted

  pub val-fits : {s r : List ℕ} {v : Value} → Val s v r → length (canonical (content v)) + 5 * length r ≤ 5 * length s
  val-fits a_null = omega arith
  val-fits a_true = omega arith
  val-fits a_false = omega arith
  val-fits (a_number {x = x} {r = r} n e) = omega (arith, number-longer n, marked-length x, ap length e, length-append x r)
  val-fits (a_string {x = x} c) = omega (arith, chars-length c, marked-length x)
  val-fits (empty_array w) = omega (arith, ws-length w, array-length no_items)
  val-fits (an_array {v = v} {vs = vs} w x m) =
      omega (arith, ws-length w, val-fits x, items-fit m, array-length (item (content v) (contents vs)), item-length (content v) (contents vs))
  val-fits (empty_object w) = omega (arith, ws-length w, object-length no_members)
  val-fits (an_object {x = x} {v = v} {ms = ms} w n y m) =
      omega (arith, ws-length w, name-length n, val-fits y, members-fit m, object-length (put x (content v) (sorted ms)), put-length x (content v) (sorted ms))

  items-fit : {s r : List ℕ} {vs : Items} → MoreItems s vs r → length (canonical_items (contents vs)) + 5 * length r + 5 ≤ 5 * length s
  items-fit (end_array w) = omega (arith, ws-length w)
  items-fit (next_item {v = v} {vs = vs} w u x m) =
      omega (arith, ws-length w, ws-length u, val-fits x, items-fit m, item-length (content v) (contents vs))

  members-fit : {s r : List ℕ} {ms : Members} → MoreMembers s ms r → length (canonical_members (sorted ms)) + 5 * length r + 5 ≤ 5 * length s
  members-fit (end_object w) = omega (arith, ws-length w)
  members-fit (next_member {x = x} {v = v} {ms = ms} w u n y m) =
      omega (arith, ws-length w, ws-length u, name-length n, val-fits y, members-fit m, put-length x (content v) (sorted ms))

pub fits : Fits
fits t v l (text w x u) = omega (arith, ws-length w, val-fits x)
