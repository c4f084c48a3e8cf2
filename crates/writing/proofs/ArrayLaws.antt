-- Writing an array: its items one after the other, behind the place of its header.
use mathlib.Core.Path.{◌≡◌, refl, sym, ◌∙◌, ap, subst}
use mathlib.Core.Bool.{true, false}
use mathlib.Core.List.{List, [], ◌∷◌, ◌++◌, append_assoc, append-nil}
use Prim.Native.Nat.{ℕ, suc, ◌+◌, ◌≤◌, ◌<◌}
use native.Mathlib.Omega.{arith}
use borrow.Author.Tests.{eqb-true, ne_eqb}
use lib.Dec.{eqb}
use lib.ListN.{length, take, drop, length-append}
use Rattle.json_text.specs.Canonical.{little_endian, canonical, canonical_items, items}
use Rattle.json_text.specs.Content.{content, contents}
use Rattle.json_text.specs.Grammar.{Ws, Val, MoreItems}
use Rattle.json_text.specs.Values.{Value, array, Items, no_items, item}
use Rattle.json_text.specs.Work.{byte_at}
use Rattle.json_text.proofs.Fronts.{items-ends}
use Rattle.json_text.proofs.Inversion.{ArrayRest, no_item, some-items, ItemsAt, at_item}
use Rattle.json_text.proofs.Inversion.{val-array, array-ends, array-items, items-front, items-end, items-next}
use Rattle.json_text.proofs.OneValue.{val-only}
use Rattle.json_text.proofs.Places.{byte-here, behind-here}
use Rattle.writing.specs.declared.Spot.{Spot}
use Rattle.writing.specs.Places.{Spans, Ends}
use Rattle.writing.specs.Writing.{written, Writable, Wrote}
use Rattle.writing.proofs.Parts.{From, past-val, from-items, place-past, place-before}
use Rattle.writing.proofs.Spanning.{byte-stands, Skips, skipped, no-more}
use Rattle.writing.proofs.WrittenLaws.{written_none, written_then, written-before}

-- the bytes of an array: 4, its length, its items
array-bytes :
    (vs : Items) (x : List ℕ) (n : ℕ) → canonical_items (contents vs) ≡ x → items (contents vs) ≡ n →
    canonical (content (array vs)) ≡ (4 ∷ little_endian 8 n) ++ x
unfolding canonical content
array-bytes vs x n e f = rw (e, f)

array-length : (vs : Items) → length (canonical (content (array vs))) ≡ 9 + length (canonical_items (contents vs))
unfolding canonical content little_endian
array-length vs = omega arith

some-array : {s r : List ℕ} {v : Value} → ArrayRest s v r → (vs : Items) × (v ≡ array vs)
some-array (no_item w) = (no_items, refl)
some-array (some-items {v} {vs} w d m) = (item v vs, refl)

-- the first item and the others
record FirstItem (s : List ℕ) (vs : Items) (r : List ℕ) : Type 0 where
  value : Value
  others : Items
  behind : List ℕ
  is : vs ≡ item value others
  val : Val s value behind
  more : MoreItems behind others r

first-item : {s r : List ℕ} {vs : Items} → ItemsAt s vs r → FirstItem s vs r
first-item (at_item {t} {v} {vs} d m) = record { value = v; others = vs; behind = t; is = refl; val = d; more = m }

-- what the bytes and the number of the items are, by the first
items-bytes : {vs : Items} {v : Value} {us : Items} → vs ≡ item v us →
    canonical_items (contents vs) ≡ canonical (content v) ++ canonical_items (contents us)
unfolding canonical_items contents
items-bytes e = rw e

items-number : {vs : Items} {v : Value} {us : Items} → vs ≡ item v us → items (contents vs) ≡ suc (items (contents us))
unfolding items contents
items-number e = rw e

-- an array of which some items are written, up to a place of the text where R holds of those that are left
pub record Progress (R : List ℕ → Items → List ℕ → Type 0)
    (t ends₀ places₀ merged₀ names₀ out₀ ends places merged names out : List ℕ) (at top pos i end count : ℕ) : Type 0 where
  pub whole : Writable t ends₀ places₀ merged₀ names₀ out₀ at top pos
  pub known : Ends t ends
  pub same_ends : length ends ≡ length ends₀
  pub same-places : length places ≡ length places₀
  pub same-merged : length merged ≡ length merged₀
  pub same_names : length names ≡ length names₀
  pub same_out : length out ≡ length out₀
  pub kept : take top places ≡ take top places₀
  pub all : Items
  pub value : whole.spans.value ≡ array all
  pub left : Items
  pub stands : R (drop i t) left (drop whole.end t)
  pub done : List ℕ
  pub rest : canonical_items (contents all) ≡ done ++ canonical_items (contents left)
  pub number : items (contents all) ≡ count + items (contents left)
  pub bytes : out ≡ written (pos + 9) done out₀
  pub end_is : end ≡ pos + 9 + length done
  pub behind : at + count < i
  pub inside : i ≤ length t

module _ {t ends places merged names out : List ℕ} {at top pos : ℕ} (w : Writable t ends places merged names out at top pos) (b : byte_at t at ≡ 0x5B) where
  array-front : ArrayRest (drop (at + 1) t) w.spans.value (drop w.end t)
  array-front = rw behind-here at (val-array w.spans.is (byte-here t at ∙ b))

  pub array-room : pos + 9 ≤ length out
  array-room =
      let v = some-array array-front in
      let l = ap (λ (x : Value). length (canonical (content x))) v.1 in
      let m = array-length v.0 in
      omega (arith, w.room_out)

  module _ (i : ℕ) (k : Skips t (at + 1) i) where
    pub array-none : (out' : List ℕ) → byte_at t i ≡ 0x5D → out' ≡ written pos (4 ∷ little_endian 8 0) out
        → Wrote t ends places places out out' at top pos (record { at = i + 1; pos = pos + 9 })
    unfolding canonical content contents canonical_items items little_endian
    array-none out' h o =
        let q = byte-stands t i 0x5D h (omega arith) in
        let z : Ws (drop (at + 1) t) (0x5D ∷ drop (i + 1) t) = rw q.0 at (skipped t (at + 1) i k) in
        let e = array-ends array-front z in
        let v : Val (drop at t) (array no_items) (drop (i + 1) t) = rw (e.0, e.1) at w.spans.is in
        let s : Spans t at (i + 1) = record {
          value = array no_items;
          is = v;
          stop = rw e.1 at w.spans.stop;
          on = omega (arith, k.1);
          fits = q.1;
        } in
        record { known = w.known; kept = refl; spans = s; bytes = o; next = refl }

    pub array-first : (byte_at t i ≡ 0x5D → ⊥) → Progress ItemsAt t ends places merged names out ends places merged names out at top pos i (pos + 9) 0
    array-first h =
        let n : eqb (byte_at (drop i t) 0) 0x5D ≡ false = ne_eqb _ 0x5D (λ e. h (sym (byte-here t i) ∙ e)) in
        let a = array-items array-front (skipped t (at + 1) i k) (no-more t (at + 1) i k) n in
        record {
          whole = w;
          known = w.known;
          same_ends = refl;
          same-places = refl;
          same-merged = refl;
          same_names = refl;
          same_out = refl;
          kept = refl;
          all = a.0;
          value = a.1;
          left = a.0;
          stands = a.2;
          done = [];
          rest = refl;
          number = omega arith;
          bytes = sym (written_none (pos + 9) out);
          end_is = omega arith;
          behind = omega (arith, k.1);
          inside = k.2;
        }

module _ {t ends₀ places₀ merged₀ names₀ out₀ ends places merged names out : List ℕ} {at top pos i end count : ℕ} where
  -- at an item: it can be written behind the others
  module _ (p : Progress ItemsAt t ends₀ places₀ merged₀ names₀ out₀ ends places merged names out at top pos i end count) where
    whole_length : 9 + (length p.done + length (canonical_items (contents p.left))) ≡ length (canonical (content p.whole.spans.value))
    whole_length =
        let l = ap (λ (x : Value). length (canonical (content x))) p.value in
        let m = array-length p.all in
        let n = simp length-append at (ap length p.rest) in
        omega arith

    pub item-writable : Writable t ends places merged names out i top end
    item-writable =
        let w = p.whole in
        let f = first-item p.stands in
        let e = place-past t i p.inside (past-val f.val) in
        let g = place-before t e.0 e.3 w.end (subst (λ (l : List ℕ). From l (drop w.end t)) e.1 (from-items f.more)) w.spans.fits in
        let l = simp length-append at (ap length (items-bytes f.is)) in
        let m = whole_length in
        let s : Spans t i e.0 = record {
          value = f.value;
          is = rw e.1 at f.val;
          stop = rw e.1 at (items-ends f.more);
          on = e.2;
          fits = e.3;
        } in
        record {
          short = w.short;
          known = p.known;
          room_ends = omega (arith, w.room_ends, p.same_ends);
          room_merged = omega (arith, w.room_merged, p.same-merged);
          room_names = omega (arith, w.room_names, p.same_names);
          end = e.0;
          spans = s;
          room_places = omega (arith, w.room_places, p.same-places, p.behind);
          room_out = omega (arith, w.room_out, p.same_out, p.end_is);
        }

    pub item-done : {ends' places' merged' names' out' : List ℕ} {r : Spot} → Wrote t ends' places places' out out' i top end r →
        length ends' ≡ length ends → length places' ≡ length places → length merged' ≡ length merged → length names' ≡ length names →
        length out' ≡ length out →
        Progress MoreItems t ends₀ places₀ merged₀ names₀ out₀ ends' places' merged' names' out' at top pos r.at r.pos (count + 1)
    item-done {ends'} {places'} {merged'} {names'} {out'} {r} q a b c e d =
        let w = p.whole in
        let f = first-item p.stands in
        let o = val-only f.val (items-ends f.more) q.spans.is q.spans.stop in
        let v = f.value in
        let x = canonical (content v) in
        let y = ap (λ (u : Value). canonical (content u)) o.0 in
        let n = items-number f.is in
        let m = whole_length in
        let z : out' ≡ written (pos + 9 + length p.done) x (written (pos + 9) p.done out₀) =
        rw (p.end_is, p.bytes, ← o.0) at q.bytes in
        record {
          whole = w;
          known = q.known;
          same_ends = a ∙ p.same_ends;
          same-places = b ∙ p.same-places;
          same-merged = c ∙ p.same-merged;
          same_names = e ∙ p.same_names;
          same_out = d ∙ p.same_out;
          kept = q.kept ∙ p.kept;
          all = p.all;
          value = p.value;
          left = f.others;
          stands = rw o.1 at f.more;
          done = p.done ++ x;
          rest = p.rest ∙ ap (λ (l : List ℕ). p.done ++ l) (items-bytes f.is) ∙ sym (append_assoc p.done x _);
          number = omega (arith, p.number);
          bytes = z ∙ written_then (pos + 9) p.done x out₀ (omega (arith, w.room_out));
          end_is = omega (arith, q.next, p.end_is, length-append p.done x, ap length y);
          behind = omega (arith, p.behind, q.spans.on);
          inside = q.spans.fits;
        }

  -- behind an item: a comma and another, or the end
  module _ (p : Progress MoreItems t ends₀ places₀ merged₀ names₀ out₀ ends places merged names out at top pos i end count) where
    module _ (j : ℕ) (k : Skips t i j) where
      pub items_more : byte_at t j ≡ 0x2C → (n : ℕ) → Skips t (j + 1) n
          → Progress ItemsAt t ends₀ places₀ merged₀ names₀ out₀ ends places merged names out at top pos n end count
      items_more h n l =
          let q = byte-stands t j 0x2C h (omega arith) in
          let z : Ws (drop i t) (0x2C ∷ drop (j + 1) t) = rw q.0 at (skipped t i j k) in
          record {
            whole = p.whole;
            known = p.known;
            same_ends = p.same_ends;
            same-places = p.same-places;
            same-merged = p.same-merged;
            same_names = p.same_names;
            same_out = p.same_out;
            kept = p.kept;
            all = p.all;
            value = p.value;
            left = p.left;
            stands = items-next p.stands z (skipped t (j + 1) n l) (no-more t (j + 1) n l);
            done = p.done;
            rest = p.rest;
            number = p.number;
            bytes = p.bytes;
            end_is = p.end_is;
            behind = omega (arith, p.behind, k.1, l.1);
            inside = l.2;
          }

      pub items-last : (byte_at t j ≡ 0x2C → ⊥) → {out' : List ℕ} → out' ≡ written pos (4 ∷ little_endian 8 count) out
          → Wrote t ends places₀ places out₀ out' at top pos (record { at = j + 1; pos = end })
      unfolding little_endian contents canonical_items items
      items-last h {out'} o =
          let w = p.whole in
          let c : eqb (byte_at (drop j t) 0) 0x2C ≡ false = ne_eqb _ 0x2C (λ e. h (sym (byte-here t j) ∙ e)) in
          let f : eqb (byte_at (drop j t) 0) 0x5D ≡ true = rw c at (items-front p.stands (skipped t i j k) (no-more t i j k)) in
          let q = byte-stands t j 0x5D (sym (byte-here t j) ∙ eqb-true _ 0x5D f) (omega arith) in
          let z : Ws (drop i t) (0x5D ∷ drop (j + 1) t) = rw q.0 at (skipped t i j k) in
          let e = items-end p.stands z in
          let d : canonical_items (contents p.all) ≡ p.done =
          p.rest ∙ ap (λ (l : Items). p.done ++ canonical_items (contents l)) e.0 ∙ append-nil p.done in
          let n : items (contents p.all) ≡ count = omega (arith, p.number, ap (λ (l : Items). items (contents l)) e.0) in
          let x : List ℕ = 4 ∷ little_endian 8 count in
          let y = array-bytes p.all p.done count d n in
          let l = ap (λ (u : Value). length (canonical (content u))) p.value in
          let m = array-length p.all in
          let g : written pos x (written (pos + 9) p.done out₀) ≡ written pos (x ++ p.done) out₀ =
          written-before pos x p.done out₀ (omega (arith, w.room_out)) in
          let s : Spans t at (j + 1) = record {
            value = array p.all;
            is = rw (p.value, e.1) at w.spans.is;
            stop = rw e.1 at w.spans.stop;
            on = omega (arith, p.behind, k.1);
            fits = q.1;
          } in
          record {
            known = p.known;
            kept = p.kept;
            spans = s;
            bytes = o ∙ ap (λ (b : List ℕ). written pos x b) p.bytes ∙ g ∙ ap (λ (b : List ℕ). written pos b out₀) (sym y);
            next = omega (arith, p.end_is, ap length d);
          }
