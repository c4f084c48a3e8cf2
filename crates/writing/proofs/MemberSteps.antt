-- Writing a member: its name, FF, its value.
use mathlib.Core.Path.{◌≡◌, sym, ◌∙◌, ap, subst}
use mathlib.Core.List.{List, [], ◌∷◌, ◌++◌, append_assoc}
use Prim.Native.Nat.{ℕ, ◌+◌, ◌≤◌, ◌<◌}
use native.Mathlib.Omega.{arith}
use lib.ListN.{length, drop, length-append}
use Rattle.json_text.specs.Canonical.{canonical}
use Rattle.json_text.specs.Content.{content}
use Rattle.json_text.specs.Grammar.{Val}
use Rattle.json_text.specs.Values.{Value}
use Rattle.json_text.proofs.Fronts.{val-ws}
use Rattle.json_text.proofs.NameLaws.{name-rest}
use Rattle.json_text.proofs.OneValue.{val-only}
use Rattle.member_order.specs.Names.{chars_text}
use Rattle.writing.specs.declared.Spot.{Spot}
use Rattle.writing.specs.Places.{MemberSpans}
use Rattle.writing.specs.Writing.{written, PutString, member_bytes, Writable, Wrote, WritableMember, WroteMember}
use Rattle.writing.proofs.NameSteps.{name-text, value-left, value-place}
use Rattle.writing.proofs.NameSteps as steps
use Rattle.writing.proofs.Spanning.{Skips}
use Rattle.writing.proofs.WrittenLaws.{written_then}

member-length : (x : List ℕ) (v : Value) → length (member_bytes x v) ≡ length x + 1 + length (canonical (content v))
member-length x v = simp length-append (omega arith)

-- a place of a text has one member
pub member-same :
    (t : List ℕ) (q a b : ℕ) (m : MemberSpans t q a) (n : MemberSpans t q b) →
    (m.name ≡ n.name) × (m.spans.value ≡ n.spans.value)
member-same t q a b m n =
    let f = name-rest m.named (val-ws m.spans.is) in
    let g = name-rest n.named (val-ws n.spans.is) in
    let e : drop n.at t ≡ drop m.at t = cc in
    let v = val-only m.spans.is m.spans.stop
    (subst (λ (l : List ℕ). Val l n.spans.value (drop b t)) e n.spans.is) n.spans.stop in
    (sym (name-text m) ∙ name-text n, v.0)

module _ {t ends places merged names out : List ℕ} {at top pos : ℕ} (w : WritableMember t ends places merged names out at top pos) where
  pub member-inside : at + 1 ≤ length t
  member-inside = steps.member-inside w.spans

  pub name-room : pos + length (chars_text (drop (at + 1) t)) + 1 ≤ length out
  name-room =
      let l = ap length (name-text w.spans) in
      let m = member-length w.spans.name w.spans.spans.value in
      omega (arith, w.room_out)

  -- behind the name
  module _ {out' : List ℕ} {r : Spot} (p : PutString t (at + 1) out out' pos r) (same : length out' ≡ length out) where
    module _ (j : ℕ) (k : Skips t r.at j) where
      pub colon-inside : j + 1 ≤ length t
      colon-inside = steps.colon-inside w.spans r.at p.end j k

      module _ (i : ℕ) (l : Skips t (j + 1) i) where
        pub value-behind : at < i
        value-behind = steps.value-behind w.spans r.at p.end j k i l

        pub value-writable : Writable t ends places merged names out' i top r.pos
        value-writable =
            let s = w.spans.spans in
            let e = value-place w.spans r.at p.end j k i l in
            let n = member-length w.spans.name s.value in
            let x = ap length (name-text w.spans) in
            record {
              short = w.short;
              known = w.known;
              room_ends = w.room_ends;
              room_merged = w.room_merged;
              room_names = w.room_names;
              end = w.end;
              spans = record { value = s.value; is = rw (value-left w.spans r.at p.end j k i l) s.is; stop = s.stop; on = omega (arith, s.on); fits = s.fits };
              room_places = omega (arith, w.room_places);
              room_out = omega (arith, w.room_out, p.next);
            }

        pub member-wrote : {ends' places' out'' : List ℕ} {q : Spot} → Wrote t ends' places places' out' out'' i top r.pos q
            → WroteMember t ends' places places' out out'' at top pos q.pos
        member-wrote {ends'} {places'} {out''} {q} o =
            let x = w.spans.name in
            let v = o.spans.value in
            let y = canonical (content v) in
            let z : List ℕ = 0xFF ∷ [] in
            let f : out' ≡ written pos (x ++ z) out = rw (name-text w.spans) at p.bytes in
            let g : r.pos ≡ pos + length (x ++ z) = omega (arith, p.next, ap length (name-text w.spans), length-append x z) in
            let h : out'' ≡ written (pos + length (x ++ z)) y (written pos (x ++ z) out) = rw (f, g) at o.bytes in
            let d : out'' ≡ written pos ((x ++ z) ++ y) out = h ∙ written_then pos (x ++ z) y out (omega (arith, name-room)) in
            let m : MemberSpans t at q.at = record {
              name = x;
              at = i;
              behind = value-behind;
              named = rw (value-left w.spans r.at p.end j k i l) w.spans.named;
              spans = o.spans;
            } in
            record {
              known = o.known;
              kept = o.kept;
              end = q.at;
              spans = m;
              bytes = d ∙ ap (λ (l : List ℕ). written pos l out) (append_assoc x z y);
              next_is = omega (arith, o.next, p.next, ap length (name-text w.spans), member-length x v);
            }
