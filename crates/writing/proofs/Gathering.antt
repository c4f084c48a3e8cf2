-- The places of an object's names, and the names, put down one by one.
use mathlib.Core.Path.{◌≡◌, refl, ◌∙◌, ap, subst}
use mathlib.Core.List.{List, [], ◌∷◌, ◌++◌, append_assoc}
use Prim.Native.Nat.{ℕ, ◌+◌, ◌-◌, ◌*◌, ◌≤◌, ◌<◌}
use native.Mathlib.Numerals.{add-one}
use native.Mathlib.Omega.{arith}
use lib.ListN.{length, take, drop, set, length-drop, length-set}
use lib.Seq.{take-set-le, take-suc-set, drop-set-add}
use Rattle.rules.proofs.ListLaws.{append-nil}
use Rattle.json_text.specs.Content.{content}
use Rattle.json_text.specs.Values.{object, Members, no_members}
use Rattle.json_text.specs.Work.{byte_at}
use Rattle.member_order.specs.Names.{name_at}
use Rattle.member_order.specs.Order.{run}
use Rattle.writing.specs.Places.{Spans, MemberSpans, Ends, Holds, Lie, none_lie, one_lies, laid}
use Rattle.writing.specs.Writing.{written, Gathered}
use Rattle.writing.proofs.NameSteps.{name-fits, member-takes}
use Rattle.writing.proofs.NamesLaws.{Noted, noted-named, noted_more}
use Rattle.writing.proofs.Objects.{First, InObject, object-none, object-first, member-first, first-inside, object-over, object-next}
use Rattle.writing.proofs.Spanning.{member-one, Skips}

-- one more element of a run
pub run_more : (p : List ℕ) (top n v : ℕ) → top + n < length p → run (set p (top + n) v) top (n + 1) ≡ run p top n ++ (v ∷ [])
run_more p top n v h =
    let l : n < length (drop top p) = omega (arith, length-drop top p) in
    rw (add-one, drop-set-add top p n v) (take-suc-set (drop top p) n v l)

-- with the names of some members put down, and the others from i on
pub record Gathering (t places₀ places names : List ℕ) (at top i count : ℕ) : Type 0 where
  pub end : ℕ
  pub spans : Spans t at end
  pub members : Members
  pub value : spans.value ≡ object members
  pub rest : Members
  pub walk : InObject t at end i rest
  pub room : 4 * top + (end - at) ≤ 4 * length places
  pub few : at + 4 * count < i
  pub kept : take top places ≡ take top places₀
  pub lies :
      (n : ℕ) (qs : List ℕ) → i - at - 4 * count ≤ n → Lie t n qs (laid rest) → Lie t n (run places top count ++ qs) (laid members)
  pub noted : Noted t names i (run places top count)

value-to :
    (t : List ℕ) (at e n : ℕ) (ms : Members) (s : Spans t at e) → s.value ≡ object ms → e ≡ n → (z : Spans t at n) × (z.value ≡ object ms)
value-to t at e n ms s h q = subst (λ (m : ℕ). (z : Spans t at m) × (z.value ≡ object ms)) q (s, h)

module _ (t places names : List ℕ) (at top e i b : ℕ) (s : Spans t at e) (h : byte_at t at ≡ 0x7B) (k : Skips t (at + 1) i) (q : b ≡ byte_at t i) where
  pub gathered_none : (ends : List ℕ) → Ends t ends → b ≡ 0x7D → Gathered t ends places places names at top (record { count = 0; end = i + 1 })
  unfolding laid
  gathered_none ends y z =
      let o = object-none t at e i b s h k q z in
      let v = value-to t at e (i + 1) no_members s o.0 o.1 in
      record {
        known = y;
        kept = refl;
        members = no_members;
        spans = v.0;
        value = v.1;
        lie = none_lie;
        few = omega arith;
        named = noted-named t names 0 [] tt;
      }

  pub gathering-starts : 4 * top + (e - at) ≤ 4 * length places → (b ≡ 0x7D → ⊥) → Gathering t places places names at top i 0
  gathering-starts r z =
      let o = object-first t at e i b s h k q z in
      record {
        end = e;
        spans = s;
        members = o.0;
        value = o.1;
        rest = o.0;
        walk = o.2;
        room = r;
        few = omega (arith, k.1);
        kept = refl;
        lies = λ n qs l y. y;
        noted = tt;
      }

module _ (t p₀ p w : List ℕ) (at top i count : ℕ) (g : Gathering t p₀ p w at top i count) where
  pub here : First t i g.rest (drop g.end t)
  here = member-first t at g.end i g.rest g.walk

  pub place_inside : top + count < length p
  place_inside =
      let f = here in
      omega (arith, g.room, g.few, member-takes f.spans, first-inside t i g.end g.rest f g.spans.fits)

  after : List ℕ
  after = set p (top + count) i

  lies-on :
      (n : ℕ) (qs : List ℕ) → i - at - 4 * count ≤ n → here.end - here.spans.at ≤ n → Lie t n qs (laid here.rest) →
      Lie t n (run after top (count + 1) ++ qs) (laid g.members)
  unfolding laid after
  lies-on n qs h k l =
      let f = here in
      let y : Holds t n i f.name (content f.value) =
      record { end = f.end; spans = f.spans; name = f.name-is; content_is = ap content f.value-is; few = k } in
      let m : Lie t n (i ∷ qs) (laid g.rest) = rw f.is (one_lies y l) in
      rw (run_more p top count i place_inside, append_assoc) (g.lies n (i ∷ qs) h m)

  module _ (n j b : ℕ) (s : MemberSpans t i n) (k : Skips t n j) (q : b ≡ byte_at t j) (w' : List ℕ)
      (wrote : w' ≡ written i (name_at t i ++ 0xFF ∷ []) w) (wide : length t ≤ length w) where
    noted-on : (m : ℕ) → n ≤ m → Noted t w' m (run after top (count + 1))
    unfolding after
    noted-on m h = rw (wrote, run_more p top count i place_inside) (noted_more t w i n m s wide h (run p top count) g.noted)

    pub gathered-all :
        (ends : List ℕ) → Ends t ends → (b ≡ 0x2C → ⊥) →
        Gathered t ends p₀ (set p (top + count) i) w' at top (record { count = count + 1; end = j + 1 })
    unfolding laid after
    gathered-all ends y z =
        let f = here in
        let o = object-over t at g.end i n j b g.rest f s k q g.spans.fits z in
        let v = value-to t at g.end (j + 1) g.members g.spans g.value o.1 in
        let m = member-one t i f.end n f.spans s in
        let d : Lie t (j + 1 - at - 4 * (count + 1)) [] (laid f.rest) = rw o.0 none_lie in
        let l =
        lies-on (j + 1 - at - 4 * (count + 1)) [] (omega (arith, g.few, member-takes s, k.1))
        (omega (arith, g.few, name-fits f.spans, f.spans.spans.on, k.1)) d in
        record {
          known = y;
          kept = take-set-le top p (top + count) i (omega arith) ∙ g.kept;
          members = g.members;
          spans = v.0;
          value = v.1;
          lie = rw append-nil at l;
          few = omega (arith, g.few, member-takes s, k.1);
          named = noted-named t w' n (run after top (count + 1)) (noted-on n (omega arith));
        }

    pub gathering-goes-on : b ≡ 0x2C → (m : ℕ) → Skips t (j + 1) m → Gathering t p₀ (set p (top + count) i) w' at top m (count + 1)
    unfolding after
    gathering-goes-on z m y =
        let f = here in
        let o = object-next t at g.end i n j b g.rest f s k q g.walk.on z m y in
        let x = member-one t i f.end n f.spans s in
        record {
          end = g.end;
          spans = g.spans;
          members = g.members;
          value = g.value;
          rest = f.rest;
          walk = o;
          room = omega (arith, g.room, length-set p (top + count) i);
          few = omega (arith, g.few, member-takes s, k.1, y.1);
          kept = take-set-le top p (top + count) i (omega arith) ∙ g.kept;
          lies = λ r qs l d.
              lies-on r qs (omega (arith, g.few, member-takes s, k.1, y.1))
              (omega (arith, g.few, name-fits f.spans, f.spans.spans.on, k.1, y.1)) d;
          noted = noted-on m (omega (arith, k.1, y.1));
        }
