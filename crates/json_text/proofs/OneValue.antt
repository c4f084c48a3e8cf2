-- A text has at most one value.
use mathlib.Core.Path.{◌≡◌, refl, sym, ◌∙◌, ap, subst}
use mathlib.Core.Bool.{true, false}
use mathlib.Core.List.{List, ◌∷◌}
use Prim.Native.Nat.{ℕ}
use native.Mathlib.Omega.{arith}
use borrow.Author.Tests.{ne_eqb}
use Rattle.json_text.specs.Bytes.{within, is_ws, is_digit}
use Rattle.json_text.specs.Theorems.{OneValue}
use Rattle.json_text.specs.Values.{Value, number, string, array, object}
use Rattle.json_text.specs.Values.{Items, item, Members, member}
use Rattle.json_text.specs.Grammar.{Ws, Chars, Name, name, Val, MoreItems, MoreMembers, end_array, next_item, end_object, next_member, Text, text}
use Rattle.json_text.specs.Grammar.{a_null, a_true, a_false, a_number, a_string, empty_array, an_array, empty_object, an_object}
use Rattle.json_text.specs.Work.{byte_at, up_to}
use Rattle.json_text.proofs.CharsLaws.{chars_rest_lem, chars-one}
use Rattle.json_text.proofs.Fronts.{starts_number, starts, number-begins, val-ws, name-mark, name-ws, ws-one, ws-ends, items-ends, members-ends}
use Rattle.json_text.proofs.Inversion.{ItemsAt, at_item, MembersAt, at-member}
use Rattle.json_text.proofs.Inversion.{val-null, val-true, val-false, val-string, val-number, val-array, val-object, no-val}
use Rattle.json_text.proofs.Inversion.{array-ends, array-items, items-end, items-next, object-ends, object-members, members-end, members-next}
use Rattle.json_text.proofs.NameLaws.{name-rest}
use Rattle.json_text.proofs.NumberLaws.{number-rest}
use Rattle.json_text.specs.Work.{goes_on}

-- what begins as v up to r does is v, and ends there; of a value, where no number would go on
abbrev OnlyVal : List ℕ → Value → List ℕ → Type 0
OnlyVal s v r = (w : Value) (q : List ℕ) → Val s w q → goes_on (byte_at q 0) ≡ false → (v ≡ w) × (r ≡ q)

abbrev OnlyItems : List ℕ → Items → List ℕ → Type 0
OnlyItems s vs r = (ws : Items) (q : List ℕ) → MoreItems s ws q → (vs ≡ ws) × (r ≡ q)

abbrev OnlyMembers : List ℕ → Members → List ℕ → Type 0
OnlyMembers s ms r = (ns : Members) (q : List ℕ) → MoreMembers s ns q → (ms ≡ ns) × (r ≡ q)

number-one : {s r : List ℕ} {v : Value} → Val s v r → goes_on (byte_at r 0) ≡ false → starts_number (byte_at s 0) ≡ true → OnlyVal s v r
number-one {s} {r} {v} c g h w q d k =
    let a = val-number c h in
    let b = val-number d h in
    let e = number-rest a.1 g in
    let f = number-rest b.1 k in
    let z : r ≡ q = cc in
    (a.0 ∙ (ap (λ (l : List ℕ). number (up_to l s)) z ∙ sym b.0), z)

string-one : {s x r : List ℕ} → Chars s x r → OnlyVal (0x22 ∷ s) (string x) r
string-one c w q d k =
    let b = val-string d refl in
    let e = chars_rest_lem c in
    let f = chars_rest_lem b.2 in
    (ap string (chars-one c b.2) ∙ sym b.1, cc)

name-one : {s x y r q : List ℕ} → Name s x r → Name s y q → x ≡ y
name-one (name c w u) (name d z t) = chars-one c d

items-at-one :
    {s t r : List ℕ} {v : Value} {vs : Items} →
    OnlyVal s v t → OnlyItems t vs r → (ws : Items) (q : List ℕ) → ItemsAt s ws q → (item v vs ≡ ws) × (r ≡ q)
items-at-one f g _ q (at_item {t} {v} {vs} d m) =
    let a = f v t d (items-ends m) in
    let b = g vs q (subst (λ (l : List ℕ). MoreItems l vs q) (sym a.1) m) in
    (cc, b.1)

members-at-one :
    {s x t u r : List ℕ} {v : Value} {ms : Members} →
    Name s x t → is_ws (byte_at t 0) ≡ false → OnlyVal t v u → OnlyMembers u ms r → (ns : Members) (q : List ℕ) → MembersAt s ns q →
    (member x v ms ≡ ns) × (r ≡ q)
members-at-one {t} {u} n h f g _ q (at-member {t = t'} {u = u'} {v} {ms} o d m) =
    let i = name-rest n h in
    let j = name-rest o (val-ws d) in
    let e : t' ≡ t = cc in
    let a = f v u' (subst (λ (l : List ℕ). Val l v u') e d) (members-ends m) in
    let b = g ms q (subst (λ (l : List ℕ). MoreMembers l ms q) (sym a.1) m) in
    let c = name-one n o in
    (cc, b.1)

array-one :
    {s t u r : List ℕ} {v : Value} {vs : Items} →
    Ws s t → Val t v u → OnlyVal t v u → OnlyItems u vs r → OnlyVal (0x5B ∷ s) (array (item v vs)) r
unfolding starts starts_number is_digit within
array-one {t} z v f g w q d k =
    let n = ne_eqb (byte_at t 0) 0x5D (λ e. no-val v (ap starts e)) in
    let b = array-items (val-array d refl) z (val-ws v) n in
    let c = items-at-one f g b.0 q b.2 in
    (ap array c.0 ∙ sym b.1, c.1)

object-one :
    {s t x u o r : List ℕ} {v : Value} {ms : Members} →
    Ws s t → Name t x u → Val u v o → OnlyVal u v o → OnlyMembers o ms r → OnlyVal (0x7B ∷ s) (object (member x v ms)) r
object-one {t} z n v f g w q d k =
    let h = name-mark n in
    let o = ne_eqb (byte_at t 0) 0x7D (λ e. omega arith) in
    let b = object-members (val-object d refl) z (name-ws n) o in
    let c = members-at-one n (val-ws v) f g b.0 q b.2 in
    (ap object c.0 ∙ sym b.1, c.1)

mutual
  val-one : {s r : List ℕ} {v : Value} → Val s v r → goes_on (byte_at r 0) ≡ false → OnlyVal s v r
  val-one a_null g = λ w q d k. let b = val-null d refl in (sym b.0, cc)
  val-one a_true g = λ w q d k. let b = val-true d refl in (sym b.0, cc)
  val-one a_false g = λ w q d k. let b = val-false d refl in (sym b.0, cc)
  val-one (a_number n e) g = number-one (a_number n e) g (number-begins n)
  val-one (a_string c) g = string-one c
  val-one (empty_array z) g = λ w q d k. let b = array-ends (val-array d refl) z in (sym b.0, sym b.1)
  val-one (an_array z v m) g = array-one z v (val-one v (items-ends m)) (items-one m)
  val-one (empty_object z) g = λ w q d k. let b = object-ends (val-object d refl) z in (sym b.0, sym b.1)
  val-one (an_object z n v m) g = object-one z n v (val-one v (members-ends m)) (members-one m)

  items-one : {s r : List ℕ} {vs : Items} → MoreItems s vs r → OnlyItems s vs r
  items-one (end_array z) = λ w q d. let b = items-end d z in (sym b.0, sym b.1)
  items-one (next_item z y v m) =
      λ w q d. items-at-one (val-one v (items-ends m)) (items-one m) w q (items-next d z y (val-ws v))

  members-one : {s r : List ℕ} {ms : Members} → MoreMembers s ms r → OnlyMembers s ms r
  members-one (end_object z) = λ w q d. let b = members-end d z in (sym b.0, sym b.1)
  members-one (next_member z y n v m) =
      λ w q d. members-at-one n (val-ws v) (val-one v (members-ends m)) (members-one m) w q (members-next d z y (name-ws n))

text-one : {t : List ℕ} {v w : Value} → Text t v → Text t w → v ≡ w
unfolding goes_on is_digit within
text-one (text {v} a c e) (text {t} {u} {v = w} b d f) =
    let q = ws-one b a (val-ws d) (val-ws c) in
    (val-one c (ws-ends e refl) w u (subst (λ (l : List ℕ). Val l w u) q d) (ws-ends f refl)).0

pub val-only :
    {s r q : List ℕ} {v w : Value} →
    Val s v r → goes_on (byte_at r 0) ≡ false → Val s w q → goes_on (byte_at q 0) ≡ false → (v ≡ w) × (r ≡ q)
val-only {q = q} {w = w} d g e h = val-one d g w q e h

pub one_value : OneValue
one_value t v w a b = text-one a b
