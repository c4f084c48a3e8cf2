-- Writing an object: its header, then its members in the order of their names.
use mathlib.Core.Path.{◌≡◌, refl, sym, ◌∙◌, ap, subst}
use mathlib.Core.List.{List, ◌∷◌, ◌++◌}
use Prim.Native.Nat.{ℕ, ◌+◌, ◌-◌, ◌*◌, ◌≤◌, ◌<◌}
use native.Mathlib.Omega.{arith}
use lib.ListN.{length, take, get_or, length-append}
use lib.Seq.{get_or-take, take-take}
use Rattle.json_text.specs.Canonical.{little_endian, canonical, canonical_members, members}
use Rattle.json_text.specs.Content.{content, sorted}
use Rattle.json_text.specs.Refusals.{longest}
use Rattle.json_text.specs.Values.{Value, object, Members}
use Rattle.json_text.proofs.OneValue.{val-only}
use Rattle.member_order.specs.Names.{name_at, name_in}
use Rattle.member_order.specs.Order.{ordered, run, Short, Rewritten}
use Rattle.member_order.proofs.Insert.{ordered_same}
use Rattle.member_order.proofs.Runs.{get_d-run, length_run}
use Rattle.writing.specs.declared.collect.Collected.{Collected}
use Rattle.writing.specs.Places.{Spans, Ends, Holds, Lie, laid, puts}
use Rattle.writing.specs.Writing.{written, member_bytes, Skippable, Gathered, Writable, Wrote, WritableMember, WroteMember}
use Rattle.writing.proofs.MemberLaws.{MemberAt, sorted-laid, lie-ordered, lie-length, lie-at, first_members, canonical-split, first-all}
use Rattle.writing.proofs.MemberSteps.{member-same}
use Rattle.writing.proofs.Spanning.{one_place}
use Rattle.writing.proofs.WrittenLaws.{written_none, written_then}

object-bytes : (ms : Members) → canonical (content (object ms)) ≡ (5 ∷ little_endian 8 (members (sorted ms))) ++ canonical_members (sorted ms)
unfolding canonical content
object-bytes ms = refl

header-length : (n : ℕ) (x : List ℕ) → length ((5 ∷ little_endian 8 n) ++ x) ≡ 9 + length x
unfolding little_endian
header-length n x = omega arith

-- an object whose members lie in order from top on, with room to write them
pub record Ordered (t places out : List ℕ) (at top pos end count : ℕ) : Type 0 where
  pub spans : Spans t at end
  pub all : Members
  pub bytes : canonical (content spans.value) ≡ (5 ∷ little_endian 8 count) ++ canonical_members all
  pub room : ℕ
  pub lie : Lie t room (run places top count) all
  pub number : members all ≡ count
  pub room_places : 4 * (top + count) + room ≤ 4 * length places
  pub room_out : pos + (9 + length (canonical_members all)) ≤ length out
  pub short : count ≤ longest

module _ {t ends places merged names out : List ℕ} {at top pos : ℕ} (w : Writable t ends places merged names out at top pos) where
  pub skippable : (s : Skippable t ends at) × (4 * top + (s.end - at) ≤ 4 * length places)
  skippable =
      (record { short = w.short; known = w.known; room = w.room_ends; end = w.end; spans = w.spans }, w.room_places)

  module _
      {ends₁ places₁ names₁ : List ℕ} {r : Collected} (g : Gathered t ends₁ places places₁ names₁ at top r) (same : length places₁ ≡ length places) where
    one_end : (w.spans.value ≡ g.spans.value) × (w.end ≡ r.end)
    one_end =
        let s = w.spans in
        let z = g.spans in
        let o = val-only s.is s.stop z.is z.stop in
        (o.0, one_place t w.end r.end o.1 s.fits z.fits)

    pub few-members : (top + r.count ≤ length places₁) × (4 * r.count ≤ length t)
    few-members =
        let e = one_end.1 in
        let s = g.spans in
        (omega (arith, w.room_places, g.few), omega (arith, g.few, s.fits))

    -- the places are the text's, which is short
    pub places-short : Short (run places₁ top r.count)
    places-short i h =
        let s = (lie-at g.lie i h).holds.spans in
        omega (arith, w.short, s.behind, s.spans.on, s.spans.fits)

    module _ {places₂ : List ℕ} {count : ℕ} (z : Rewritten places₁ top r.count (ordered (name_in names₁) (run places₁ top r.count)) places₂)
        (n : count ≡ length (ordered (name_in names₁) (run places₁ top r.count))) where
      by-text : ordered (name_in names₁) (run places₁ top r.count) ≡ ordered (name_at t) (run places₁ top r.count)
      by-text = ordered_same (name_in names₁) (name_at t) (run places₁ top r.count) g.named

      pub still_kept : take top places₂ ≡ take top places
      still_kept = z.below ∙ g.kept

      pub in_order : Ordered t places₂ out at top pos r.end count
      in_order =
          let e = one_end in
          let s = g.spans in
          let ms = g.members in
          let a = puts (laid ms) in
          let q = ordered (name_at t) (run places₁ top r.count) in
          let l : Lie t (r.end - at - 4 * r.count) q a = lie-ordered t _ g.lie in
          let k : run places₂ top count ≡ q = rw n z.is ∙ by-text in
          let m : members a ≡ count = sym (n ∙ ap length by-text ∙ lie-length l) in
          let f = ap (λ (v : Value). canonical (content v)) g.value in
          let b : canonical (content s.value) ≡ (5 ∷ little_endian 8 count) ++ canonical_members a =
          f ∙ object-bytes ms ∙ rw (sorted-laid ms, m) in
          let x = ap length b in
          let y = header-length count (canonical_members a) in
          let v = ap (λ (u : Value). length (canonical (content u))) e.0 in
          record {
            spans = s;
            all = a;
            bytes = b;
            room = r.end - at - 4 * r.count;
            lie = rw k l;
            number = m;
            room_places = omega (arith, w.room_places, z.few, z.size, g.few);
            room_out = omega (arith, w.room_out);
            short = omega (arith, w.short, z.few, g.few, s.fits);
          }

-- of the members that lie in order, those in front of the i-th are written
pub record MembersDone (t ends₀ places₀ merged₀ names₀ out₀ ends places merged names out : List ℕ) (top count end₀ i end : ℕ) : Type 0 where
  pub known : Ends t ends
  pub same_ends : length ends ≡ length ends₀
  pub same-places : length places ≡ length places₀
  pub same-merged : length merged ≡ length merged₀
  pub same_names : length names ≡ length names₀
  pub same_out : length out ≡ length out₀
  pub kept : take (top + count) places ≡ take (top + count) places₀
  pub few : i ≤ count
  pub bytes :
      (room : ℕ) (ms : Members) → Lie t room (run places₀ top count) ms →
      (out ≡ written end₀ (canonical_members (first_members i ms)) out₀) × (end ≡ end₀ + length (canonical_members (first_members i ms)))

pub members-first :
    (t ends places merged names out : List ℕ) (top count end : ℕ) → Ends t ends →
    MembersDone t ends places merged names out ends places merged names out top count end 0 end
unfolding first_members canonical_members
members-first t ends places merged names out top count end k = record {
  known = k;
  same_ends = refl;
  same-places = refl;
  same-merged = refl;
  same_names = refl;
  same_out = refl;
  kept = refl;
  few = omega arith;
  bytes = λ room ms l. (sym (written_none end out), omega arith);
}

kept_less : (x y : List ℕ) (n m : ℕ) → take (n + m) x ≡ take (n + m) y → take n x ≡ take n y
kept_less x y n m e = sym (take-take n (n + m) x (omega arith)) ∙ ap (λ (l : List ℕ). take n l) e ∙ take-take n (n + m) y (omega arith)

module _
    {t ends₀ places₀ merged₀ names₀ out₀ ends places merged names out o : List ℕ} {at top pos last count i end : ℕ}
    (s : Ordered t places₀ o at top pos last count)
    (p : MembersDone t ends₀ places₀ merged₀ names₀ out₀ ends places merged names out top count (pos + 9) i end) (same : length out₀ ≡ length o) where
  all_there : length (run places₀ top count) ≡ count
  all_there = length_run places₀ top count (omega (arith, s.room_places))

  module _ (h : i < count) (q : ℕ) (n : q ≡ get_or places (top + i) 0) where
    place_is : q ≡ get_or (run places₀ top count) i 0
    place_is =
        let a = get_or-take (top + count) places (top + i) 0 (omega arith) in
        let b = get_or-take (top + count) places₀ (top + i) 0 (omega arith) in
        n ∙ sym a ∙ ap (λ (l : List ℕ). get_or l (top + i) 0) p.kept ∙ b ∙ sym (get_d-run places₀ top count i h)

    -- the member that stands there
    module _ (room : ℕ) (ms : Members) (l : Lie t room (run places₀ top count) ms) where
      held : MemberAt t room (run places₀ top count) ms i
      held = lie-at l i (omega (arith, all_there))

      stands : Holds t room q held.name held.value
      stands = subst (λ (x : ℕ). Holds t room x held.name held.value) (sym place_is) held.holds

      stands-bytes : member_bytes stands.spans.name stands.spans.spans.value ≡ held.name ++ 0xFF ∷ canonical held.value
      stands-bytes = rw (stands.name, stands.content_is)

      next-bytes :
          canonical_members (first_members (i + 1) ms) ≡
          canonical_members (first_members i ms) ++ member_bytes stands.spans.name stands.spans.spans.value
      next-bytes = held.next ∙ ap (λ (x : List ℕ). canonical_members (first_members i ms) ++ x) (sym stands-bytes)

    pub member-writable : length t ≤ longest → length t ≤ length ends₀ → length t ≤ 4 * length merged₀ → length t ≤ length names₀
        → WritableMember t ends places merged names out q (top + count) end
    member-writable a b c d =
        let k = stands s.room s.all s.lie in
        let m = k.spans in
        let e = (p.bytes s.room s.all s.lie).1 in
        let x = simp length-append at (ap length (canonical-split (i + 1) s.all)) in
        let y = simp length-append at (ap length (next-bytes s.room s.all s.lie)) in
        let z = length-append m.name (0xFF ∷ canonical (content m.spans.value)) in
        record {
          short = a;
          known = p.known;
          room_ends = omega (arith, p.same_ends);
          room_merged = omega (arith, p.same-merged);
          room_names = omega (arith, p.same_names);
          end = k.end;
          spans = m;
          room_places = omega (arith, k.few, s.room_places, p.same-places);
          room_out = omega (arith, s.room_out, p.same_out);
        }

    pub members-more : {ends' places' merged' names' out' : List ℕ} {next : ℕ} →
        WroteMember t ends' places places' out out' q (top + count) end next →
        length ends' ≡ length ends → length places' ≡ length places → length merged' ≡ length merged → length names' ≡ length names →
        length out' ≡ length out →
        MembersDone t ends₀ places₀ merged₀ names₀ out₀ ends' places' merged' names' out' top count (pos + 9) (i + 1) next
    members-more {out'} {next} w a b c u d = record {
      known = w.known;
      same_ends = a ∙ p.same_ends;
      same-places = b ∙ p.same-places;
      same-merged = c ∙ p.same-merged;
      same_names = u ∙ p.same_names;
      same_out = d ∙ p.same_out;
      kept = w.kept ∙ p.kept;
      few = omega arith;
      bytes = λ room ms l.
          let k = (stands room ms l).spans in
          let f = member-same t q _ _ w.spans k in
          let e = p.bytes room ms l in
          let x = canonical_members (first_members i ms) in
          let y = member_bytes k.name k.spans.value in
          let g : member_bytes w.spans.name w.spans.spans.value ≡ y = rw (f.0, f.1) in
          let u = written (pos + 9) x out₀ in
          let z : out' ≡ written (pos + 9 + length x) y u =
          w.bytes ∙ ap (λ (b : List ℕ). written end b out) g ∙ ap (λ (b : List ℕ). written end y b) e.0 ∙ ap (λ (j : ℕ). written j y u) e.1 in
          let n = next-bytes room ms l in
          let m : pos + 9 ≤ length out₀ = omega (arith, s.room_out) in
          let v : out' ≡ written (pos + 9) (x ++ y) out₀ = z ∙ written_then (pos + 9) x y out₀ m in
          (rw n v, omega (arith, w.next_is, ap length g, ap length n, length-append x y));
    }

  pub members-last : count ≤ i → out₀ ≡ written pos (5 ∷ little_endian 8 count) o → (places₁ : List ℕ) → take top places₀ ≡ take top places₁
      → Wrote t ends places₁ places o out at top pos (record { at = last; pos = end })
  unfolding little_endian
  members-last h e places₁ k =
      let m = s.all in
      let f = ap canonical_members (first-all i m (omega (arith, s.number))) in
      let g = p.bytes s.room m s.lie in
      let x : List ℕ = 5 ∷ little_endian 8 count in
      let y = canonical_members m in
      let b : out ≡ written (pos + 9) y (written pos x o) = rw (f, e) at g.0 in
      let c : written (pos + 9) y (written pos x o) ≡ written pos (x ++ y) o = written_then pos x y o (omega (arith, s.room_out)) in
      record {
        known = p.known;
        kept = kept_less places places₀ top count p.kept ∙ k;
        spans = s.spans;
        bytes = b ∙ c ∙ ap (λ (l : List ℕ). written pos l o) (sym s.bytes);
        next = omega (arith, g.1, ap length f, ap length s.bytes, header-length count y);
      }
