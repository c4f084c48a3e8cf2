-- The areas behind a place, copied one by one to their neighbours': what the loops of take_out and of insert keep.
use mathlib.Core.Path.{◌≡◌, refl, sym, ap, ◌∙◌}
use mathlib.Core.Logic.{inl, inr, ⊎_elim}
use mathlib.Core.List.{List}
use Prim.Native.Nat.{ℕ, suc, ◌+◌, ◌-◌, ◌≤◌, ◌<◌}
use native.Mathlib.Nat.{mul-le-mul_right}
use native.Mathlib.Omega.{arith}
use lib.ListN.{length, get_or, set, length-set}
use lib.Seq.{get_or-set_same, get_or-set_other}
use Rattle.rules.specs.Lines.{waiting, with_lines}
use Rattle.words.specs.Words.{back, part}
use Rattle.words.proofs.Cases.{below_or, row_before}
use Rattle.words.proofs.Parts.{Loan, part_length, part_ext, part_same, length_back, back_below, back_above}
use Rattle.lines.specs.Area.{conn_of, TwoAreas, AreaCopied}
use Rattle.store.specs.Store.{limits_of, line_count, line_width, line_start, market_of, Sized}
use Rattle.store.specs.Moves.{Moved}
use Rattle.store.specs.ConnMoves.{LineAt}
use Rattle.store.specs.Areas.{without, inserted, Room, Starts}
use Rattle.store.proofs.LineFrame.{area-fits, next_start, area_in}
use Rattle.store.proofs.AreaMoves.{SaysAs, closed-moved, Opened, opened-moved}

-- by the limits of w: how wide an area is, where the k-th starts, and its words in v
abbrev width : List ℕ → ℕ
width w = line_width (limits_of w)

abbrev start : List ℕ → ℕ → ℕ
start w k = line_start (limits_of w) k

abbrev area : List ℕ → List ℕ → ℕ → List ℕ
area w v k = area_in (limits_of w) v k

-- an area whose words stay, and what it says
area-stays : (w : List ℕ) → Sized w → (v u : List ℕ) → length v ≡ length w → length u ≡ length w → (k : ℕ) → k < (limits_of w).L
    → ((x : ℕ) → start w k ≤ x → x < start w k + width w → get_or u x 0 ≡ get_or v x 0) → area w u k ≡ area w v k
area-stays w z v u m n k l e =
    let fits = area-fits w z k l in
    part_ext (start w k) (start w k + width w) u v (n ∙ sym m) (omega arith) e

says_stays : (w v u : List ℕ) (j k : ℕ) → area w u k ≡ area w v k → SaysAs w v j k → SaysAs w u j k
says_stays w v u j k e s = record { conn = ap (conn_of (limits_of w).H) e ∙ s.conn; kind = ap (λ (x : List ℕ). get_or x 1 0) e ∙ s.kind }

-- the j-th area, which had stayed, was copied to the k-th place
says-copied : (w v u : List ℕ) (j k from to : ℕ) → from ≡ start w j → to ≡ start w k → area w v j ≡ area w w j → AreaCopied (limits_of w).H from to v u
    → SaysAs w u j k
says-copied w v u j k from to p q e c =
    record {
      conn = ap (λ (x : ℕ). conn_of (limits_of w).H (part x (x + width w) u)) (sym q)
          ∙ c.conn
          ∙ ap (λ (x : ℕ). conn_of (limits_of w).H (part x (x + width w) v)) p
          ∙ ap (conn_of (limits_of w).H) e;
      kind = ap (λ (x : ℕ). get_or (part x (x + width w) u) 1 0) (sym q)
          ∙ c.kind
          ∙ ap (λ (x : ℕ). get_or (part x (x + width w) v) 1 0) p
          ∙ ap (λ (x : List ℕ). get_or x 1 0) e;
    }

-- ---- the i-th area goes: those behind it, up to the j-th, stand one place lower; the j-th place, at a, is written next

pub record Closing (w v : List ℕ) (i j a : ℕ) : Type 0 where
  pub size : length v ≡ length w
  pub past : i ≤ j
  pub inside : j < line_count w
  pub here : a ≡ start w j
  pub before : (x : ℕ) → x < start w i → get_or v x 0 ≡ get_or w x 0
  pub rest : (x : ℕ) → a + width w ≤ x → get_or v x 0 ≡ get_or w x 0
  pub moved : (k : ℕ) → i ≤ k → k < j → SaysAs w v (suc k) k

module _ (w : List ℕ) (i : ℕ) (f : LineAt w i) where
  pub closing-start : (a : ℕ) → Starts w i a → Closing w w i i a
  closing-start a s =
      record {
        size = refl;
        past = omega arith;
        inside = f.here;
        here = s.start;
        before = λ x h. refl;
        rest = λ x h. refl;
        moved = λ k h l. absurd (omega arith);
      }

  module _ (v : List ℕ) (j a : ℕ) (c : Closing w v i j a) (more : suc j < line_count w) where
    next : a + width w ≡ start w (suc j)
    next = omega (arith, c.here, next_start (limits_of w) j)

    pub closing-ready : TwoAreas (limits_of w).H (a + width w) a v
    closing-ready =
        let fits = area-fits w f.lined.sized (suc j) (omega arith) in
        let n = next in
        let s : length v ≡ length w = c.size in
        record { apart = inr (omega arith); source = omega arith; target = omega arith }

    pub closing-more : (u : List ℕ) → AreaCopied (limits_of w).H (a + width w) a v u → (b m : ℕ) → b ≡ a + width w → m ≡ suc j → Closing w u i m b
    closing-more u d b m p q =
        let z : Sized w = f.lined.sized in
        let n = next in
        let s : length u ≡ length w = d.size ∙ c.size in
        let o = mul-le-mul_right (width w) c.past in
        let g : a ≡ start w j = c.here in
        record {
          size = s;
          past = omega (arith, c.past);
          inside = omega arith;
          here = p ∙ n ∙ ap (start w) (sym q);
          before = λ x h. d.below x (omega arith) ∙ c.before x h;
          rest = λ x h. d.above x (omega arith) ∙ c.rest x (omega arith);
          moved = λ k h l.
              ⊎_elim
              (λ e.
              let r = row_before k j (width w) e in
              says_stays w v u (suc k) k (area-stays w z v u c.size s k (omega arith) (λ x y t. d.below x (omega arith))) (c.moved k h e))
              (λ e.
              let r : k ≡ j = omega arith in
              let t : area w v (suc j) ≡ area w w (suc j) = area-stays w z w v refl c.size (suc j) (omega arith) (λ x y t. c.rest x (omega arith)) in
              rw r (says-copied w v u (suc j) j (a + width w) a n g t d))
              (below_or k j);
        }

  pub closing-done : (v : List ℕ) (j a m : ℕ) → Closing w v i j a → m ≡ line_count w - 1 → m ≤ j
      → Moved w (set v 9 m) (with_lines (without i (market_of w).lines) (market_of w))
  closing-done v j a m c e l =
      let z : Sized w = f.lined.sized in
      let u : List ℕ = set v 9 m in
      let s : length u ≡ length w = length-set v 9 m ∙ c.size in
      let other : (x : ℕ) → (x ≡ 9 → ⊥) → get_or u x 0 ≡ get_or v x 0 = λ x h. get_or-set_other v 9 x m 0 h in
      closed-moved w u i f
      (record {
        kept = record { size = s; same = λ x h g. other x g ∙ c.before x h };
        count = let k : get_or u 9 0 ≡ m = get_or-set_same v 9 m 0 (omega (arith, z.header, c.size)) in omega (arith, f.here);
        moved = λ k h g.
            says_stays w v u (suc k) k (area-stays w z v u c.size s k (omega arith) (λ x y t. other x (λ r. omega arith))) (c.moved k h (omega arith));
      })

-- ---- an area comes in before the i-th: those from the j-th on stand one place higher; the j-th place, at a, is free

pub record Opening (w v : List ℕ) (i j a : ℕ) : Type 0 where
  pub size : length v ≡ length w
  pub past : i ≤ j
  pub inside : j ≤ line_count w
  pub here : a ≡ start w j
  pub rest : (x : ℕ) → x < a + width w → get_or v x 0 ≡ get_or w x 0
  pub moved : (k : ℕ) → j ≤ k → k < line_count w → SaysAs w v k (suc k)

module _ (w : List ℕ) (i : ℕ) (f : Room w i) where
  pub opening-start : (a : ℕ) → Starts w (line_count w) a → Opening w w i (line_count w) a
  opening-start a s =
      record { size = refl; past = f.here; inside = omega arith; here = s.start; rest = λ x h. refl; moved = λ k h l. absurd (omega arith) }

  module _ (v : List ℕ) (j a : ℕ) (c : Opening w v i j a) where
    pub place-fits : a + width w ≤ length v
    place-fits = let fits = area-fits w f.lined.sized j (omega (arith, c.inside, f.room)) in omega (arith, c.here, c.size)

    module _ (more : i < j) where
      below : a ≡ start w (j - 1) + width w
      below =
          let q : j ≡ suc (j - 1) = omega arith in
          c.here ∙ ap (start w) q ∙ next_start (limits_of w) (j - 1)

      pub opening-back : width w ≤ a
      opening-back = omega (arith, below)

      pub opening-ready : TwoAreas (limits_of w).H (a - width w) a v
      opening-ready =
          let n = place-fits in
          let b = opening-back in
          record { apart = inl (omega arith); source = omega arith; target = omega arith }

      pub opening-more : (u : List ℕ) → AreaCopied (limits_of w).H (a - width w) a v u → (b m : ℕ) → b ≡ a - width w → m ≡ j - 1 → Opening w u i m b
      opening-more u d b m p q =
          let z : Sized w = f.lined.sized in
          let n = below in
          let s : length u ≡ length w = d.size ∙ c.size in
          let g : a ≡ start w j = c.here in
          let y : j ≤ line_count w = c.inside in
          let r : line_count w < (limits_of w).L = f.room in
          let e : a - width w ≡ start w (j - 1) = omega arith in
          record {
            size = s;
            past = omega arith;
            inside = omega arith;
            here = p ∙ e ∙ ap (start w) (sym q);
            rest = λ x h. d.below x (omega arith) ∙ c.rest x (omega arith);
            moved = λ k h l.
                ⊎_elim
                (λ o.
                let t : k ≡ j - 1 = omega arith in
                let t' : suc k ≡ j = omega arith in
                let t'' : area w v (j - 1) ≡ area w w (j - 1) =
                area-stays w z w v refl c.size (j - 1) (omega arith) (λ x y' o'. c.rest x (omega arith)) in
                says-copied w v u k (suc k) (a - width w) a (e ∙ ap (start w) (sym t)) (g ∙ ap (start w) (sym t')) (rw t t'') d)
                (λ o.
                let t = mul-le-mul_right (width w) o in
                let t' = next_start (limits_of w) k in
                says_stays w v u k (suc k) (area-stays w z v u c.size s (suc k) (omega arith) (λ x y' o'. d.above x (omega arith))) (c.moved k o l))
                (below_or k j);
          }

    -- then the place at a is written as zs, and counted
    module _ (end : j ≤ i) (zs : List ℕ) (n : length zs ≡ length (part a (a + width w) v)) where
      loan : Loan a (a + width w) zs v
      loan = record { kept = n ∙ part_length a (a + width w) v place-fits; start = omega arith; inside = place-fits }

      written-size : length (back a (a + width w) zs v) ≡ length w
      written-size = length_back a (a + width w) zs v loan ∙ c.size

      pub opening-count : 9 < length (back a (a + width w) zs v)
      opening-count = omega (arith, written-size, f.lined.sized.header)

      pub opening-size : length (set (back a (a + width w) zs v) 9 (line_count w + 1)) ≡ length w
      opening-size = length-set (back a (a + width w) zs v) 9 (line_count w + 1) ∙ written-size

      opened-by : Opened w (set (back a (a + width w) zs v) 9 (line_count w + 1)) zs i
      opened-by =
          let z : Sized w = f.lined.sized in
          let u : List ℕ = back a (a + width w) zs v in
          let x : List ℕ = set u 9 (line_count w + 1) in
          let s : length x ≡ length w = opening-size in
          let q : j ≡ i = omega (arith, c.past) in
          let g : a ≡ start w i = c.here ∙ ap (start w) q in
          let r : line_count w < (limits_of w).L = f.room in
          let other : (k : ℕ) → (k ≡ 9 → ⊥) → get_or x k 0 ≡ get_or u k 0 = λ k h. get_or-set_other u 9 k (line_count w + 1) 0 h in
          let stays : (k : ℕ) → k < (limits_of w).L → area w x k ≡ area w u k =
          λ k l. area-stays w z u x written-size s k l (λ y h o. other y (λ e. omega arith)) in
          record {
            kept = record { size = s; same = λ k h e. other k e ∙ back_below a (a + width w) zs v loan k (omega arith) ∙ c.rest k (omega arith) };
            count = get_or-set_same u 9 (line_count w + 1) 0 opening-count ∙ omega arith;
            new = stays i (omega (arith, f.here)) ∙ ap (λ (y : ℕ). part y (y + width w) u) (sym g) ∙ part_same a (a + width w) zs v loan;
            moved = λ k h l.
                let t = mul-le-mul_right (width w) h in
                let t' = next_start (limits_of w) k in
                let t'' : area w u (suc k) ≡ area w v (suc k) =
                area-stays w z v u c.size written-size (suc k) (omega arith) (λ y o e. back_above a (a + width w) zs v loan y (omega arith)) in
                says_stays w v x k (suc k) (stays (suc k) (omega arith) ∙ t'') (c.moved k (omega arith) l);
          }

      pub opening-done : (conn limit t : ℕ) → ((h : ℕ) → conn_of h zs ≡ waiting conn limit t)
          → Moved w (set (back a (a + width w) zs v) 9 (line_count w + 1)) (with_lines (inserted i (waiting conn limit t) (market_of w).lines) (market_of w))
      opening-done conn limit t h = opened-moved w _ zs i f opened-by conn limit t h
