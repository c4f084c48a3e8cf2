-- A value at a place has one end; what the code finds there is that end.
use mathlib.Core.Path.{◌≡◌, refl, sym, ◌∙◌, subst}
use mathlib.Core.Bool.{Bool, true, false}
use mathlib.Core.List.{List, ◌∷◌}
use Prim.Native.Nat.{ℕ, ◌+◌, ◌≤◌, ◌<◌}
use native.Mathlib.Omega.{arith}
use borrow.Author.Tests.{eqb-true, eqb-false}
use lib.Dec.{eqb}
use lib.ListN.{length, drop, get_or, set, length-drop}
use lib.Seq.{get_or-set_same, get_or-set_other}
use Rattle.std.specs.Prelude.{Option, Some, None, IsSome}
use Rattle.json_text.specs.Bytes.{is_ws}
use Rattle.json_text.specs.Grammar.{Ws, Val}
use Rattle.json_text.specs.Work.{byte_at, skip_ws}
use Rattle.json_text.specs.Work.{Ends as Found}
use Rattle.json_text.proofs.Bounds.{byte_inside, left_at}
use Rattle.json_text.proofs.Fronts.{val-ws}
use Rattle.json_text.proofs.NameLaws.{name-rest}
use Rattle.json_text.proofs.OneValue.{val-only}
use Rattle.json_text.proofs.Spaces.{skips-ws, skipped-front}
use Rattle.json_text.proofs.Tests.{same, no-some}
use Rattle.writing.specs.Places.{Spans, Ends, MemberSpans}

-- what is left tells the place
pub one_place : (t : List ℕ) (a b : ℕ) → drop a t ≡ drop b t → a ≤ length t → b ≤ length t → a ≡ b
one_place t a b e h k =
    let p = length-drop a t in
    let q = length-drop b t in
    let l : length (drop a t) ≡ length (drop b t) = cc in
    omega arith

pub spans-to : (t : List ℕ) (at e r : ℕ) → Spans t at e → e ≡ r → Spans t at r
spans-to t at e r s q = subst (λ (n : ℕ). Spans t at n) q s

pub spans-from : (t : List ℕ) (at p e : ℕ) → Spans t at e → p ≡ at → Spans t p e
spans-from t at p e s q = rw q s

-- two values at places where the same is left
module _ (t : List ℕ) (p q a b : ℕ) (s : Spans t p a) (z : Spans t q b) where
  one_left : drop p t ≡ drop q t → (s.value ≡ z.value) × (drop a t ≡ drop b t)
  one_left e = val-only s.is s.stop (subst (λ (l : List ℕ). Val l z.value (drop b t)) (sym e) z.is) z.stop

  pub spans-one : drop p t ≡ drop q t → a ≡ b
  spans-one e = one_place t a b (one_left e).1 s.fits z.fits

pub member-one : (t : List ℕ) (q a b : ℕ) → MemberSpans t q a → MemberSpans t q b → a ≡ b
member-one t q a b m n =
    let f = name-rest m.named (val-ws m.spans.is) in
    let g = name-rest n.named (val-ws n.spans.is) in
    spans-one t m.at n.at a b m.spans n.spans (cc)

-- an end that was found where e is one
pub found_some : (t : List ℕ) (low e : ℕ) (o : Option (List ℕ)) (r : Option ℕ) → Found t low o r → o ≡ Some (drop e t) → IsSome r
found_some t low e o (Some n) f h = refl
found_some t low e o None f h = no-some (f.rest ∙ h)

pub place_found :
    (t : List ℕ) (low e n : ℕ) (o : Option (List ℕ)) (r : Option ℕ) → Found t low o r → o ≡ Some (drop e t) → e ≤ length t → r ≡ Some n → n ≡ e
place_found t low e n o r f h k q =
    let g : Found t low o (Some n) = rw q at f in
    let l : drop n t ≡ drop e t = same (g.rest ∙ h) in
    one_place t n e l g.beyond.1 k

-- a member by the end of its value
pub member-to : (t : List ℕ) (q e n : ℕ) (m : MemberSpans t q e) (z : ℕ) → n ≡ m.at → Spans t n z → MemberSpans t q z
member-to t q e n m z h s = record { name = m.name; at = n; behind = omega (arith, m.behind); named = rw h m.named; spans = s }

-- an end that is known
pub known-end : (t ends : List ℕ) (at n : ℕ) → Ends t ends → n ≡ get_or ends at 0 → (n ≡ 0 → ⊥) → Spans t at n
known-end t ends at n k e h = rw e (k at (omega arith))

-- a true end that is put down
pub ends_set : (t ends : List ℕ) (at e : ℕ) → at < length ends → Ends t ends → Spans t at e → Ends t (set ends at e)
ends_set t ends at e l k s p = go (eqb p at) refl
  where
    go : (b : Bool) → eqb p at ≡ b → 0 < get_or (set ends at e) p 0 → Spans t p (get_or (set ends at e) p 0)
    go true q h =
        let f = eqb-true p at q in
        rw f (rw (get_or-set_same ends at e 0 l) s)
    go false q h =
        let f = get_or-set_other ends at p e 0 (eqb-false p at q) in
        rw f (k p (rw f at h))

-- a byte that stands at a place
pub byte-stands : (t : List ℕ) (i b : ℕ) → byte_at t i ≡ b → b < 256 → (drop i t ≡ b ∷ drop (i + 1) t) × (i + 1 ≤ length t)
byte-stands t i b e h =
    let l = byte_inside t i (omega arith) in
    (left_at t i l ∙ rw e, omega arith)

-- what skipping ws leaves
abbrev pub Skips : List ℕ → ℕ → ℕ → Type 0
Skips t a r = (drop r t ≡ skip_ws (drop a t)) × (a ≤ r) × (r ≤ length t)

module _ (t : List ℕ) (a r : ℕ) (k : Skips t a r) where
  pub skipped : Ws (drop a t) (drop r t)
  skipped = subst (λ (l : List ℕ). Ws (drop a t) l) (sym k.0) (skips-ws (drop a t))

  pub no-more : is_ws (byte_at (drop r t) 0) ≡ false
  no-more = rw k.0 (skipped-front (drop a t))
