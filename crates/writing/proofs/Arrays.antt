-- The walk through an array, item by item: at is the place of its bracket, e its end, i the place of an item.
use mathlib.Core.Path.{◌≡◌, refl, sym, ◌∙◌, subst}
use mathlib.Core.Bool.{false}
use mathlib.Core.List.{List}
use Prim.Native.Nat.{ℕ, ◌+◌, ◌≤◌, ◌<◌}
use native.Mathlib.Omega.{arith}
use borrow.Author.Tests.{eqb-true, ne_eqb}
use lib.ListN.{length, drop}
use Rattle.json_text.specs.Grammar.{Ws, Val, MoreItems}
use Rattle.json_text.specs.Values.{Items}
use Rattle.json_text.specs.Work.{byte_at, goes_on}
use Rattle.json_text.proofs.Fronts.{items-ends}
use Rattle.json_text.proofs.Inversion.{ArrayRest, ItemsAt, at_item, val-array, array-ends, array-items, items-front, items-end, items-next}
use Rattle.json_text.proofs.Places.{byte-here, front-byte, behind-here}
use Rattle.writing.specs.Places.{Spans}
use Rattle.writing.proofs.Parts.{past-val, place-past}
use Rattle.writing.proofs.Spanning.{one_place, spans-to, spans-one, byte-stands, Skips, skipped, no-more}

-- an item and what follows it
item-at :
    {s r : List ℕ} {vs : Items} →
    ItemsAt s vs r → (t : List ℕ) (i : ℕ) → i ≤ length t → s ≡ drop i t → (n : ℕ) × Spans t i n × (ws : Items) × MoreItems (drop n t) ws r
item-at (at_item {t = u} {r} {v} {vs} d m) t i h e =
    let c = subst (λ (l : List ℕ). Val l v u) e d in
    let p = place-past t i h (past-val c) in
    let s : Spans t i p.0 =
    record {
      value = v;
      is = subst (λ (l : List ℕ). Val (drop i t) v l) p.1 c;
      stop = subst (λ (l : List ℕ). goes_on (byte_at l 0) ≡ false) p.1 (items-ends m);
      on = p.2;
      fits = p.3;
    } in
    (p.0, s, vs, subst (λ (l : List ℕ). MoreItems l vs r) p.1 m)

pub record InArray (t : List ℕ) (at i : ℕ) : Type 0 where
  pub end : ℕ
  pub spans : Spans t at end
  pub items : Items
  pub lie : ItemsAt (drop i t) items (drop end t)
  pub on : at < i
  pub fits : i ≤ length t

-- from the bracket on, behind the ws
module _ (t : List ℕ) (at e i b : ℕ) (s : Spans t at e) (h : byte_at t at ≡ 0x5B) (k : Skips t (at + 1) i) (q : b ≡ byte_at t i) where
  rest : ArrayRest (drop (at + 1) t) s.value (drop e t)
  rest = rw behind-here at (val-array s.is (byte-here t at ∙ h))

  pub array-none : b ≡ 0x5D → Spans t at (i + 1)
  array-none z =
      let f = byte-stands t i 0x5D (sym q ∙ z) (omega arith) in
      let w = subst (λ (l : List ℕ). Ws (drop (at + 1) t) l) f.0 (skipped t (at + 1) i k) in
      spans-to t at e (i + 1) s (one_place t e (i + 1) (array-ends rest w).1 s.fits f.1)

  pub array-first : (b ≡ 0x5D → ⊥) → InArray t at i
  array-first z =
      let n = ne_eqb b 0x5D z in
      let f = array-items rest (skipped t (at + 1) i k) (no-more t (at + 1) i k) (rw (front-byte t i b q) n) in
      record { end = e; spans = s; items = f.0; lie = f.2; on = omega arith; fits = k.2 }

-- the item at i
pub item-spans : (t : List ℕ) (at i : ℕ) → InArray t at i → (n : ℕ) × Spans t i n
item-spans t at i a = let p = item-at a.lie t i a.fits refl in (p.0, p.1)

-- behind that item and the ws
module _ (t : List ℕ) (at i n j b : ℕ) (a : InArray t at i) (s : Spans t i n) (k : Skips t n j) (q : b ≡ byte_at t j) where
  more : (ws : Items) × MoreItems (drop n t) ws (drop a.end t)
  more =
      let p = item-at a.lie t i a.fits refl in
      let e = spans-one t i i p.0 n p.1 s refl in
      (p.2, subst (λ (m : ℕ). MoreItems (drop m t) p.2 (drop a.end t)) e p.3)

  closed : (b ≡ 0x2C → ⊥) → b ≡ 0x5D
  closed z =
      let f = items-front more.1 (skipped t n j k) (no-more t n j k) in
      eqb-true b 0x5D (rw (front-byte t j b q, ne_eqb b 0x2C z) at f)

  pub array-over : (b ≡ 0x2C → ⊥) → Spans t at (j + 1)
  array-over z =
      let f = byte-stands t j 0x5D (sym q ∙ closed z) (omega arith) in
      let w = subst (λ (l : List ℕ). Ws (drop n t) l) f.0 (skipped t n j k) in
      spans-to t at a.end (j + 1) a.spans (one_place t a.end (j + 1) (items-end more.1 w).1 a.spans.fits f.1)

  pub array-next : b ≡ 0x2C → (m : ℕ) → Skips t (j + 1) m → InArray t at m
  array-next z m y =
      let f = byte-stands t j 0x2C (sym q ∙ z) (omega arith) in
      let w = subst (λ (l : List ℕ). Ws (drop n t) l) f.0 (skipped t n j k) in
      let r = items-next more.1 w (skipped t (j + 1) m y) (no-more t (j + 1) m y) in
      record { end = a.end; spans = a.spans; items = more.0; lie = r; on = omega (arith, a.on, s.on); fits = y.2 }
