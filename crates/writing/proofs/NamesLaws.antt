-- The names that stand in a list, each from its own place on with FF behind it.
use mathlib.Core.Path.{◌≡◌, refl, sym, ◌∙◌, ap}
use mathlib.Core.Bool.{Bool, true, false, cond}
use mathlib.Core.List.{List, [], ◌∷◌, ◌++◌, append_assoc}
use Prim.Native.Nat.{ℕ, zero, suc, ◌+◌, ◌≤◌, ◌<◌}
use native.Mathlib.Omega.{arith}
use lib.Dec.{eqb}
use lib.ListN.{length, take, drop, length-take, length-drop, take-append-drop}
use lib.Seq.{drop_at, drop-append-le}
use Rattle.json_text.specs.Work.{up_to_ff}
use Rattle.member_order.specs.Names.{name_at, name_in}
use Rattle.content.proofs.CleanChars.{name_below}
use Rattle.content.proofs.NumberTexts.{Below}
use Rattle.content.proofs.ReadBack.{ff-ends}
use Rattle.writing.specs.Places.{MemberSpans}
use Rattle.writing.specs.Writing.{written, Named}
use Rattle.writing.proofs.NameSteps.{name-text, name-fits}

-- what lies behind the FF does not count
ff-front : (s y z : List ℕ) → length (up_to_ff (s ++ z)) < length s → up_to_ff (s ++ y) ≡ up_to_ff (s ++ z)
unfolding up_to_ff
ff-front [] y z h = absurd (omega arith)
ff-front (b ∷ s) y z h = go (eqb b 0xFF) h (ff-front s y z)
  where
    go : (c : Bool) → length (cond c [] (b ∷ up_to_ff (s ++ z))) < length (b ∷ s)
        → (length (up_to_ff (s ++ z)) < length s → up_to_ff (s ++ y) ≡ up_to_ff (s ++ z))
        → cond c [] (b ∷ up_to_ff (s ++ y)) ≡ cond c [] (b ∷ up_to_ff (s ++ z))
    go true k r = refl
    go false k r = ap (λ (l : List ℕ). b ∷ l) (r (omega arith))

-- a name that is written is read
name_back : (i : ℕ) (x w : List ℕ) → i ≤ length w → Below x → name_in (written i (x ++ 0xFF ∷ []) w) i ≡ x
unfolding written
name_back i x w h k =
    let z : List ℕ = 0xFF ∷ [] in
    let r = drop (i + length (x ++ z)) w in
    let l : length (take i w) ≡ i = simp length-take (omega arith) in
    ap up_to_ff (drop_at (take i w) ((x ++ z) ++ r) i l ∙ append_assoc x z r) ∙ ff-ends x r k

-- and stays when something is written behind it
name-stays : (i q : ℕ) (x w : List ℕ) → i ≤ length w → q + length (name_in w q) < i → name_in (written i x w) q ≡ name_in w q
unfolding written
name-stays i q x w h k =
    let f = take i w in
    let y = x ++ drop (i + length x) w in
    let z = drop i w in
    let l : length f ≡ i = simp length-take (omega arith) in
    let e : name_in w q ≡ up_to_ff (drop q f ++ z) =
    ap (λ (v : List ℕ). name_in v q) (sym (take-append-drop i w)) ∙ ap up_to_ff (drop-append-le q f z (omega arith)) in
    ap up_to_ff (drop-append-le q f y (omega arith)) ∙ ff-front (drop q f) y z (omega (arith, ap length e, length-drop q f)) ∙ sym e

-- the names at some places of t stand in w, each with its FF below i
abbrev pub Noted : (t w : List ℕ) (i : ℕ) → List ℕ → Type 0
Noted t w i [] = Unit {0}
Noted t w i (q ∷ qs) = (name_in w q ≡ name_at t q) × (q + length (name_at t q) < i) × Noted t w i qs

pub noted-named : (t w : List ℕ) (i : ℕ) (qs : List ℕ) → Noted t w i qs → Named t w qs
noted-named t w i [] n k h = absurd (omega arith)
noted-named t w i (q ∷ qs) n zero h = n.0
noted-named t w i (q ∷ qs) n (suc k) h = noted-named t w i qs n.2 k (omega arith)

-- the name at i is written too
module _ (t w : List ℕ) (i e j : ℕ) (m : MemberSpans t i e) (room : length t ≤ length w) (on : e ≤ j) where
  inside : i ≤ length w
  inside = omega (arith, m.behind, m.spans.on, m.spans.fits)

  pub noted_more : (qs : List ℕ) → Noted t w i qs → Noted t (written i (name_at t i ++ 0xFF ∷ []) w) j (qs ++ (i ∷ []))
  noted_more [] n =
      let b : Below (name_at t i) = rw (name-text m) (name_below m.named) in
      (name_back i (name_at t i) w inside b, omega (arith, name-fits m, m.spans.on), tt)
  noted_more (q ∷ qs) n =
      let l : q + length (name_in w q) < i = omega (arith, ap length n.0, n.1) in
      let s = name-stays i q (name_at t i ++ 0xFF ∷ []) w inside l in
      (s ∙ n.0, omega (arith, n.1, m.behind, m.spans.on), noted_more qs n.2)
