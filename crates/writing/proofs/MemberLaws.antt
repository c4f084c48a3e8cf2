-- Members by the places of their names: in order as their places are, and one after the other.
use mathlib.Core.Path.{◌≡◌, refl, sym, ◌∙◌, ap}
use mathlib.Core.Bool.{Bool, true, false, cond}
use mathlib.Core.List.{List, ◌∷◌, ◌++◌, append-nil, append_assoc}
use Prim.Native.Nat.{ℕ, zero, suc, ◌+◌, ◌≤◌, ◌<◌}
use native.Mathlib.Numerals.{add-one}
use native.Mathlib.Omega.{arith}
use lib.ListN.{length, take, drop, get_or}
use lib.Seq.{drop-drop}
use Rattle.json_text.specs.Canonical.{canonical, members, canonical_members}
use Rattle.json_text.specs.Content.{before, content, put, sorted}
use Rattle.json_text.specs.Grammar.{Name, name}
use Rattle.json_text.specs.Values.{Value, Members, no_members, member}
use Rattle.member_order.specs.Names.{chars_text, name_at}
use Rattle.member_order.specs.Order.{insert, insert_all, ordered}
use Rattle.member_order.proofs.TextLaws.{chars-text}
use Rattle.writing.specs.Places.{Holds, Lie, none_lie, one_lies, laid, puts}

pub sorted-laid : (ms : Members) → sorted ms ≡ puts (laid ms)
unfolding sorted laid puts
sorted-laid no_members = refl
sorted-laid (member x v ms) = ap (put x (content v)) (sorted-laid ms)

-- the name that stands at the place of a member
named-text : {s x r : List ℕ} → Name s x r → chars_text (drop 1 s) ≡ x
named-text (name cs w u) = chars-text cs

module _ {t : List ℕ} {room : ℕ} where
  pub holds-name : {q : ℕ} {x : List ℕ} {w : Value} → Holds t room q x w → name_at t q ≡ x
  holds-name {q} h = ap chars_text (sym (drop-drop 1 q t)) ∙ named-text h.spans.named ∙ h.name

  -- a place goes between others as its member does
  lie-insert :
      {q : ℕ} {x : List ℕ} {w : Value} {qs : List ℕ} {ms : Members} →
      Holds t room q x w → Lie t room qs ms → Lie t room (insert (name_at t) q qs) (put x w ms)
  unfolding insert put
  lie-insert h none_lie = one_lies h none_lie
  lie-insert {q} {x} {w} h (one_lies {q = p} {qs = ps} {x = y} {w = v} {ms = ns} k l) =
      rw (holds-name h, holds-name k) (go (before x y) (before y x) (lie-insert h l))
    where
      go : (a b : Bool) → Lie t room (insert (name_at t) q ps) (put x w ns)
          → Lie t room (cond a (q ∷ p ∷ ps) (cond b (p ∷ insert (name_at t) q ps) (p ∷ ps)))
          (cond a (member x w (member y v ns)) (cond b (member y v (put x w ns)) (member y v ns)))
      go true b r = one_lies h (one_lies k l)
      go false true r = one_lies k r
      go false false r = one_lies k l

pub lie-ordered :
    (t : List ℕ) (room : ℕ) {qs : List ℕ} {ms : Members} → Lie t room qs ms → Lie t room (ordered (name_at t) qs) (puts ms)
unfolding insert_all puts
lie-ordered t room none_lie = none_lie
lie-ordered t room (one_lies h l) = lie-insert h (lie-ordered t room l)

-- the first members, those behind them, and some in front of others
unfoldable pub first_members : ℕ → Members → Members
first_members zero ms = no_members
first_members (suc n) no_members = no_members
first_members (suc n) (member x w ms) = member x w (first_members n ms)

unfoldable pub rest_members : ℕ → Members → Members
rest_members zero ms = ms
rest_members (suc n) no_members = no_members
rest_members (suc n) (member x w ms) = rest_members n ms

unfoldable pub joins : Members → Members → Members
joins no_members ns = ns
joins (member x w ms) ns = member x w (joins ms ns)

pub joins-split : (i : ℕ) (ms : Members) → joins (first_members i ms) (rest_members i ms) ≡ ms
unfolding first_members rest_members joins
joins-split zero ms = refl
joins-split (suc i) no_members = refl
joins-split (suc i) (member x w ms) = ap (member x w) (joins-split i ms)

pub first-all : (i : ℕ) (ms : Members) → members ms ≤ i → first_members i ms ≡ ms
unfolding first_members members
first-all zero no_members h = refl
first-all zero (member x w ms) h = absurd (omega arith)
first-all (suc i) no_members h = refl
first-all (suc i) (member x w ms) h = ap (member x w) (first-all i ms (omega arith))

pub canonical-joins : (ms ns : Members) → canonical_members (joins ms ns) ≡ canonical_members ms ++ canonical_members ns
unfolding joins canonical_members
canonical-joins no_members ns = refl
canonical-joins (member x w ms) ns = simp (canonical-joins ms ns, append_assoc)

pub canonical-split : (i : ℕ) (ms : Members) → canonical_members ms ≡ canonical_members (first_members i ms) ++ canonical_members (rest_members i ms)
canonical-split i ms = sym (ap canonical_members (joins-split i ms)) ∙ canonical-joins (first_members i ms) (rest_members i ms)

-- the member at a place among others
pub record MemberAt (t : List ℕ) (room : ℕ) (qs : List ℕ) (ms : Members) (i : ℕ) : Type 0 where
  pub name : List ℕ
  pub value : Value
  pub holds : Holds t room (get_or qs i 0) name value
  pub rest : rest_members i ms ≡ member name value (rest_members (i + 1) ms)
  pub next : canonical_members (first_members (i + 1) ms) ≡ canonical_members (first_members i ms) ++ (name ++ 0xFF ∷ canonical value)

module _ {t : List ℕ} {room : ℕ} where
  pub lie-length : {qs : List ℕ} {ms : Members} → Lie t room qs ms → length qs ≡ members ms
  unfolding members
  lie-length none_lie = refl
  lie-length (one_lies h l) = ap suc (lie-length l)

  pub lie-first : {qs : List ℕ} {ms : Members} → Lie t room qs ms → (i : ℕ) → Lie t room (take i qs) (first_members i ms)
  unfolding first_members
  lie-first none_lie zero = none_lie
  lie-first none_lie (suc i) = none_lie
  lie-first (one_lies h l) zero = none_lie
  lie-first (one_lies h l) (suc i) = one_lies h (lie-first l i)

  pub lie-rest : {qs : List ℕ} {ms : Members} → Lie t room qs ms → (i : ℕ) → Lie t room (drop i qs) (rest_members i ms)
  unfolding rest_members
  lie-rest none_lie zero = none_lie
  lie-rest none_lie (suc i) = none_lie
  lie-rest (one_lies h l) zero = one_lies h l
  lie-rest (one_lies h l) (suc i) = lie-rest l i

  pub lie-at : {qs : List ℕ} {ms : Members} → Lie t room qs ms → (i : ℕ) → i < length qs → MemberAt t room qs ms i
  unfolding first_members rest_members canonical_members
  lie-at none_lie i b = absurd (omega arith)
  lie-at (one_lies {x} {w} h l) zero b = record { name = x; value = w; holds = h; rest = refl; next = simp append-nil }
  lie-at (one_lies {x = y} {w = v} h l) (suc i) b =
      let r = lie-at l i (omega arith) in
      record {
        name = r.name;
        value = r.value;
        holds = r.holds;
        rest = rw add-one (rw add-one at r.rest);
        next = rw add-one (simp (rw add-one at r.next, append_assoc));
      }
