-- The walk through an object, member by member: at is the place of its brace, e its end, i the place of a name.
use mathlib.Core.Path.{◌≡◌, refl, sym, ◌∙◌, subst}
use mathlib.Core.Bool.{false}
use mathlib.Core.List.{List}
use Prim.Native.Nat.{ℕ, ◌+◌, ◌≤◌, ◌<◌}
use native.Mathlib.Omega.{arith}
use borrow.Author.Tests.{eqb-true, ne_eqb}
use lib.ListN.{length, drop}
use Rattle.json_text.specs.Grammar.{Ws, Name, Val, MoreMembers}
use Rattle.json_text.specs.Values.{Value, object, Members, no_members, member}
use Rattle.json_text.specs.Work.{byte_at, goes_on}
use Rattle.json_text.proofs.Fronts.{members-ends}
use Rattle.json_text.proofs.Inversion.{ObjectRest, MembersAt, at-member, val-object, object-ends, object-members, members-front, members-end, members-next}
use Rattle.json_text.proofs.Places.{byte-here, front-byte, behind-here}
use Rattle.writing.specs.Places.{Spans, MemberSpans}
use Rattle.writing.proofs.Parts.{past-name, past-val, from-members, place-past, place-before}
use Rattle.writing.proofs.Spanning.{one_place, member-one, byte-stands, Skips, skipped, no-more}

-- the first of the members ms, which lie from i on, and what follows it
pub record First (t : List ℕ) (i : ℕ) (ms : Members) (r : List ℕ) : Type 0 where
  pub name : List ℕ
  pub value : Value
  pub rest : Members
  pub is : ms ≡ member name value rest
  pub end : ℕ
  pub spans : MemberSpans t i end
  pub name-is : spans.name ≡ name
  pub value-is : spans.spans.value ≡ value
  pub more : MoreMembers (drop end t) rest r

member-at : {s r : List ℕ} {ms : Members} → MembersAt s ms r → (t : List ℕ) (i : ℕ) → i ≤ length t → s ≡ drop i t → First t i ms r
member-at (at-member {x} {t = y} {u} {r} {v} {ms} n d m) t i h e =
    let c = subst (λ (l : List ℕ). Name l x y) e n in
    let p = place-past t i h (past-name c) in
    let f = subst (λ (l : List ℕ). Val l v u) p.1 d in
    let q = place-past t p.0 p.3 (past-val f) in
    let s : Spans t p.0 q.0 =
    record {
      value = v;
      is = subst (λ (l : List ℕ). Val (drop p.0 t) v l) q.1 f;
      stop = subst (λ (l : List ℕ). goes_on (byte_at l 0) ≡ false) q.1 (members-ends m);
      on = q.2;
      fits = q.3;
    } in
    let z : MemberSpans t i q.0 =
    record { name = x; at = p.0; behind = p.2; named = subst (λ (l : List ℕ). Name (drop i t) x l) p.1 c; spans = s } in
    record {
      name = x;
      value = v;
      rest = ms;
      is = refl;
      end = q.0;
      spans = z;
      name-is = refl;
      value-is = refl;
      more = subst (λ (l : List ℕ). MoreMembers l ms r) q.1 m;
    }

pub record InObject (t : List ℕ) (at e i : ℕ) (ms : Members) : Type 0 where
  pub lie : MembersAt (drop i t) ms (drop e t)
  pub on : at < i
  pub fits : i ≤ length t

-- from the brace on, behind the ws
module _ (t : List ℕ) (at e i b : ℕ) (s : Spans t at e) (h : byte_at t at ≡ 0x7B) (k : Skips t (at + 1) i) (q : b ≡ byte_at t i) where
  rest : ObjectRest (drop (at + 1) t) s.value (drop e t)
  rest = rw behind-here at (val-object s.is (byte-here t at ∙ h))

  pub object-none : b ≡ 0x7D → (s.value ≡ object no_members) × (e ≡ i + 1)
  object-none z =
      let f = byte-stands t i 0x7D (sym q ∙ z) (omega arith) in
      let w = subst (λ (l : List ℕ). Ws (drop (at + 1) t) l) f.0 (skipped t (at + 1) i k) in
      let o = object-ends rest w in
      (o.0, one_place t e (i + 1) o.1 s.fits f.1)

  pub object-first : (b ≡ 0x7D → ⊥) → (ms : Members) × (s.value ≡ object ms) × InObject t at e i ms
  object-first z =
      let n = ne_eqb b 0x7D z in
      let f = object-members rest (skipped t (at + 1) i k) (no-more t (at + 1) i k) (rw (front-byte t i b q) n) in
      (f.0, f.1, record { lie = f.2; on = omega arith; fits = k.2 })

-- the member at i
pub member-first : (t : List ℕ) (at e i : ℕ) (ms : Members) → InObject t at e i ms → First t i ms (drop e t)
member-first t at e i ms o = member-at o.lie t i o.fits refl

-- which ends in the object
pub first-inside : (t : List ℕ) (i e : ℕ) (ms : Members) (f : First t i ms (drop e t)) → e ≤ length t → f.end ≤ e
first-inside t i e ms f h = place-before t f.end f.spans.spans.fits e (from-members f.more) h

-- behind that member and the ws
module _ (t : List ℕ) (at e i n j b : ℕ) (ms : Members) (f : First t i ms (drop e t)) (s : MemberSpans t i n) (k : Skips t n j) (q : b ≡ byte_at t j) where
  more : MoreMembers (drop n t) f.rest (drop e t)
  more =
      let p = member-one t i f.end n f.spans s in
      subst (λ (m : ℕ). MoreMembers (drop m t) f.rest (drop e t)) p f.more

  closed : (b ≡ 0x2C → ⊥) → b ≡ 0x7D
  closed z =
      let g = members-front more (skipped t n j k) (no-more t n j k) in
      eqb-true b 0x7D (rw (front-byte t j b q, ne_eqb b 0x2C z) at g)

  pub object-over : e ≤ length t → (b ≡ 0x2C → ⊥) → (f.rest ≡ no_members) × (e ≡ j + 1)
  object-over h z =
      let g = byte-stands t j 0x7D (sym q ∙ closed z) (omega arith) in
      let w = subst (λ (l : List ℕ). Ws (drop n t) l) g.0 (skipped t n j k) in
      let o = members-end more w in
      (o.0, one_place t e (j + 1) o.1 h g.1)

  pub object-next : at < i → b ≡ 0x2C → (m : ℕ) → Skips t (j + 1) m → InObject t at e m f.rest
  object-next h z m y =
      let g = byte-stands t j 0x2C (sym q ∙ z) (omega arith) in
      let w = subst (λ (l : List ℕ). Ws (drop n t) l) g.0 (skipped t n j k) in
      let r = members-next more w (skipped t (j + 1) m y) (no-more t (j + 1) m y) in
      record { lie = r; on = omega (arith, s.behind, s.spans.on); fits = y.2 }
