-- Laws of trying to line up, of a round and of the sweep.
use Rattle.std.specs.Prelude.{Option, None, Some}
use mathlib.Core.Path.{◌≡◌, refl, sym, ap, ◌∙◌}
use mathlib.Core.Logic.{◌≢◌}
use mathlib.Core.List.{List, map}
use mathlib.Core.Bool.{Bool, true, false, ◌||◌, cond}
use Prim.Native.Nat.{ℕ, suc, ◌+◌, ◌-◌, ◌≤◌, ◌<◌}
use native.Mathlib.Nat.{sub-zero}
use native.Mathlib.Numerals.{add-one}
use native.Mathlib.Omega.{arith}
use lib.Dec.{eqb}
use lib.ListN.{length, length-map, length-set}
use Rattle.rules.specs.Lists.{Each, count, keep, nil, only}
use Rattle.rules.specs.Quantities.{Key}
use Rattle.rules.specs.Log.{keys}
use Rattle.rules.specs.Lines.{Line, Waiting, Pending, InLine, Failed, Market, conn_at, items_of, events, event_keys, is_pending, some_due}
use Rattle.rules.specs.Place as Rules
use Rattle.rules.specs.Place.{alignment, counts, places}
use Rattle.rules.specs.Entering.{Work, begin, aligns, line_up, try_line_up, round, sweep, pendings}
use Rattle.rules.proofs.Tests.{by-maybe, eqb-other, eqb_same, none≢some}
use Rattle.rules.proofs.ListLaws.{each_append, each-count, each_keep, each_map, only-in}
use Rattle.rules.proofs.Moves.{alignment-fits}
use Rattle.rules.proofs.Loops.{line_up-lines, round-pendings, sweep-loop, sweep-idle}
use Rattle.rules.proofs.SoundMoves.{try_line_up-sound, round-sound}
use Rattle.place.specs.declared.Place.{Place}
use Rattle.place.specs.Items.{place_of}
use Rattle.store.specs.Store.{head_of, line_count, market_of}
use Rattle.store.proofs.MarketLaws.{market-base, entry-count, lines-count}
use Rattle.moves.specs.Does.{Does, Ready}
use Rattle.moves.specs.Places.{AtPlace}
use Rattle.moves.proofs.DoesLaws.{does-as, does-none, ready-then}
use Rattle.moves.proofs.LeftLaws.{Left, left-start, left-then, left-done}

-- ---- a place

-- of a place (j, x), the held events have a j-th or end there
alignment-held : (quiet : Bool) (hs ks : List Key) (p : Rules.Place) → alignment quiet hs ks ≡ Some p → p.0 ≤ length hs
unfolding alignment
alignment-held quiet hs ks p e =
    let P : Rules.Place → Type 0 = λ q. q.0 ≤ length hs in
    let all : Each P (places hs ks) = each_append P (map (λ i. (0, i)) (count 0 (length ks))) (map (λ j. (j, 0)) (count 1 (length hs - 1)))
    (each_map (λ i. (0 ≤ i) × (i < 0 + length ks)) P (λ i. (0, i)) (λ i h. omega arith) (count 0 (length ks)) (each-count 0 (length ks)))
    (each_map (λ i. (1 ≤ i) × (i < 1 + (length hs - 1))) P (λ j. (j, 0)) (λ i h. omega arith) (count 1 (length hs - 1)) (each-count 1 (length hs - 1))) in
    go all (nil hs || nil ks) e
  where
    go : Each (λ (q : Rules.Place). q.0 ≤ length hs) (places hs ks) → (b : Bool) → cond b None (only (keep (counts quiet hs ks) (places hs ks))) ≡ Some p → p.0 ≤ length hs
    go all true h = absurd (none≢some h)
    go all false h = only-in (λ (q : Rules.Place). q.0 ≤ length hs) (keep (counts quiet hs ks) (places hs ks)) p h (each_keep (λ (q : Rules.Place). q.0 ≤ length hs) (counts quiet hs ks) (places hs ks) all)

-- the place that an answer names
placed : (b : ℕ) (p : Place) (o : Option (ℕ × ℕ)) → Some p ≡ place_of b o → (o ≡ Some (p.event, p.number - b)) × (b ≤ p.number)
placed b p None e = absurd (none≢some (sym e))
placed b p (Some (i, x)) e =
    let q : p ≡ (record { event = i; number = b + x }) = cc in
    let a : p.event ≡ i = ap (λ (z : Place). z.event) q in
    let d : p.number ≡ b + x = ap (λ (z : Place). z.number) q in
    let f : x ≡ p.number - b = omega arith in
    ((λ z. Some (sym a z, f z)), omega arith)

unplaced : (b : ℕ) (o : Option (ℕ × ℕ)) → None ≡ place_of b o → o ≡ None
unplaced b None e = refl
unplaced b (Some p) e = absurd (none≢some e)

record Bounded (l : Line) (m : Market) (p : Rules.Place) : Type 0 where
  pending : is_pending l ≡ true
  event : p.0 ≤ length (events (items_of l))
  entry : p.1 ≤ length m.log.entries

bounded : (quiet : Bool) (l : Line) (m : Market) (p : Rules.Place) → aligns quiet l m ≡ Some p → Bounded l m p
bounded quiet (Waiting is since) m p e = absurd (none≢some e)
bounded quiet (InLine n a b) m p e = absurd (none≢some e)
bounded quiet Failed m p e = absurd (none≢some e)
bounded quiet (Pending is at since) m p e =
    let h = un (some_due m.lines) e in
    let a = (alignment-fits quiet (event_keys is) (keys m.log) p h).0 in
    let b = alignment-held quiet (event_keys is) (keys m.log) p h in
    let c = length-map m.log.entries (λ x. x.0) in
    let d = length-map (events is) (λ x. x.0) in
    record { pending = refl; event = omega arith; entry = omega arith }
  where
    un : (b : Bool) → cond b None (alignment quiet (event_keys is) (keys m.log)) ≡ Some p → alignment quiet (event_keys is) (keys m.log) ≡ Some p
    un true h = absurd (none≢some h)
    un false h = h

-- what alignment answers
abbrev pub place_in : Bool → ℕ → List ℕ → Option Place
place_in quiet i w = place_of (market_of w).log.base (aligns quiet (conn_at i (market_of w)).line (market_of w))

module _ {w v : List ℕ} {n : ℕ} (quiet : Bool) (i t : ℕ) where
  pub line-up-ready : (p : Place) → Ready w v n → i < line_count w → Some p ≡ place_in quiet i w → Ready w v n × AtPlace w i p.event p.number
  line-up-ready p r h e =
      let q = placed (market_of w).log.base p (aligns quiet (conn_at i (market_of w)).line (market_of w)) e in
      let b = bounded quiet (conn_at i (market_of w)).line (market_of w) (p.event, p.number - (market_of w).log.base) q.0 in
      let a = b.entry in
      let c = entry-count w in
      let d = market-base w in
      let f = q.1 in
      (r, record { here = h; pending = b.pending; event = b.event; from = omega arith; upto = omega arith })

  pub lined-up : {w₁ v₁ : List ℕ} {n₁ : ℕ} (p : Place) → Some p ≡ place_in quiet i w → Does (line_up i t (p.event, p.number - (head_of w).base)) w v n w₁ v₁ n₁ → Does (try_line_up quiet i t) w v n w₁ v₁ n₁
  unfolding try_line_up
  lined-up p e d = does-as (line_up i t (p.event, p.number - (head_of w).base)) (try_line_up quiet i t)
      (λ k m. let q : aligns quiet (conn_at i k.market).line k.market ≡ Some (p.event, p.number - (head_of w).base) =
      ap (λ (x : Market). aligns quiet (conn_at i x).line x) m ∙ (placed (market_of w).log.base p (aligns quiet (conn_at i (market_of w)).line (market_of w)) e).0
      ∙ ap (λ (b : ℕ). Some (p.event, p.number - b)) (market-base w) in rw q) d

  pub not-lined-up : Ready w v n → None ≡ place_in quiet i w → Does (try_line_up quiet i t) w v n w v n
  unfolding try_line_up
  not-lined-up r e = does-as (λ k. k) (try_line_up quiet i t)
      (λ k m. let q : aligns quiet (conn_at i k.market).line k.market ≡ None =
      ap (λ (x : Market). aligns quiet (conn_at i x).line x) m ∙ unplaced (market_of w).log.base (aligns quiet (conn_at i (market_of w)).line (market_of w)) e in rw q)
      (does-none r.sound.sized)

-- ---- a round

pub try_line_up-count : (i now : ℕ) (k : Work) → length (try_line_up false i now k).market.lines ≡ length k.market.lines
unfolding try_line_up
try_line_up-count i now k =
    by-maybe (λ (x : Work). length x.market.lines ≡ length k.market.lines) (aligns false (conn_at i k.market).line k.market) refl
    (λ p h. ap length (line_up-lines i now p k) ∙ simp length-set)

round-step : (l i t : ℕ) → i < l → (k : Work) → round (l - i) i t k ≡ round (l - (i + 1)) (i + 1) t (try_line_up false i t k)
unfolding round
round-step l i t h k =
    let e : l - i ≡ suc (l - (i + 1)) = omega arith in
    ap (λ (m : ℕ). round m i t k) e ∙ ap (λ (m : ℕ). round (l - (i + 1)) m t (try_line_up false i t k)) (sym (add-one i))

round-none : (i t : ℕ) (k : Work) → round 0 i t k ≡ k
unfolding round
round-none i t k = refl

-- the words w became w₁ when the round at t came to the i-th line
pub record RoundTo (t : ℕ) (w v : List ℕ) (n : ℕ) (w₁ v₁ : List ℕ) (n₁ i : ℕ) : Type 0 where
  pub ready : Ready w₁ v₁ n₁
  pub lines : line_count w₁ ≡ line_count w
  pub inside : i ≤ line_count w
  pub size : length w₁ ≡ length w
  pub room : length v₁ ≡ length v
  pub left : Left (round (line_count w) 0 t) (round (line_count w - i) i t) w v n w₁ v₁ n₁

module _ {w v : List ℕ} {n : ℕ} (t : ℕ) (r : Ready w v n) where
  pub round-start : RoundTo t w v n w v n 0
  round-start =
      record { ready = r; lines = refl; inside = omega arith; size = refl; room = refl; left = rw sub-zero (left-start (round (line_count w) 0 t) r.sound.sized) }

  pub round-on : {w₁ v₁ : List ℕ} {n₁ : ℕ} {w₂ v₂ : List ℕ} {n₂ : ℕ} {i : ℕ} → RoundTo t w v n w₁ v₁ n₁ i → i < line_count w
      → length w₂ ≡ length w₁ → length v₂ ≡ length v₁ → Does (try_line_up false i t) w₁ v₁ n₁ w₂ v₂ n₂ → RoundTo t w v n w₂ v₂ n₂ (i + 1)
  round-on {w₁} {v₁} {n₁} {w₂} {v₂} {n₂} {i} a h z y d =
      let g = d (begin (market_of w₁)) refl in
      let b : length (market_of w₂).lines ≡ length (market_of w₁).lines = ap (λ (m : Market). length m.lines) g.moved.market ∙ try_line_up-count i t (begin (market_of w₁)) in
      let o = r.room in
      record {
        ready = ready-then (try_line_up false i t) (λ Z k m s. try_line_up-sound Z false i t k s) y d a.ready;
        lines = sym (lines-count w₂) ∙ b ∙ lines-count w₁ ∙ a.lines;
        inside = omega arith;
        size = z ∙ a.size;
        room = y ∙ a.room;
        left = left-then (round (line_count w) 0 t) (round (line_count w - i) i t) (round (line_count w - (i + 1)) (i + 1) t) (try_line_up false i t) (omega arith) a.left d
            (λ k m. round-step (line_count w) i t h k);
      }

  pub round-done : {w₁ v₁ : List ℕ} {n₁ : ℕ} {i : ℕ} → RoundTo t w v n w₁ v₁ n₁ i → line_count w ≤ i → Does (round (line_count w) 0 t) w v n w₁ v₁ n₁
  round-done {i} a h =
      let e : line_count w - i ≡ 0 = omega arith in
      left-done (round (line_count w) 0 t) (round (line_count w - i) i t) a.left (λ k. ap (λ (m : ℕ). round m i t k) e ∙ round-none i t k)

pub round-ready : {w v : List ℕ} {n : ℕ} {w₁ v₁ : List ℕ} {n₁ : ℕ} (t : ℕ) → Does (round (line_count w) 0 t) w v n w₁ v₁ n₁ → length v₁ ≡ length v
    → Ready w v n → Ready w₁ v₁ n₁
round-ready {w} t d y r = ready-then (round (line_count w) 0 t) (λ Z k m s. round-sound Z (line_count w) 0 t k s) y d r

-- ---- the sweep

-- the words w became w₁ in the sweep at t, with so many lines pending, and what is left of it is a sweep
pub record SweepTo (t : ℕ) (w v : List ℕ) (n : ℕ) (w₁ v₁ : List ℕ) (n₁ p : ℕ) : Type 0 where
  pub ready : Ready w₁ v₁ n₁
  pub size : length w₁ ≡ length w
  pub room : length v₁ ≡ length v
  pub pending : p ≡ pendings (market_of w₁).lines
  pub left : Left (sweep t) (sweep t) w v n w₁ v₁ n₁

-- one round of it
module _ {w₁ v₁ : List ℕ} {n₁ : ℕ} {w₂ v₂ : List ℕ} {n₂ : ℕ} (t : ℕ) (d : Does (round (line_count w₁) 0 t) w₁ v₁ n₁ w₂ v₂ n₂)
    {p q : ℕ} (e : p ≡ pendings (market_of w₁).lines) (f : q ≡ pendings (market_of w₂).lines) where
  sweep-step : (k : Work) → k.market ≡ market_of w₁ → sweep t k ≡ cond (eqb q p) (round (line_count w₁) 0 t k) (sweep t (round (line_count w₁) 0 t k))
  sweep-step k m =
      let k₁ = round (line_count w₁) 0 t k in
      let a : length k.market.lines ≡ line_count w₁ = ap (λ (x : Market). length x.lines) m ∙ lines-count w₁ in
      let b : pendings k.market.lines ≡ p = ap (λ (x : Market). pendings x.lines) m ∙ sym e in
      let c : pendings k₁.market.lines ≡ q = ap (λ (x : Market). pendings x.lines) (sym (d k m).moved.market) ∙ sym f in
      sweep-loop t k k₁ (ap (λ (x : ℕ). round x 0 t k) a) ∙ (λ z. cond (eqb (c z) (b z)) k₁ (sweep t k₁))

  pub sweep-less : q ≢ p → q < p
  sweep-less h =
      let k = begin (market_of w₁) in
      let a = ap (λ (x : Market). pendings x.lines) (d k refl).moved.market in
      let b = round-pendings (line_count w₁) 0 t k in
      omega arith

  module _ {w v : List ℕ} {n : ℕ} (r : Ready w v n) (a : SweepTo t w v n w₁ v₁ n₁ p) where
    -- what is left of the sweep behind it
    sweep-left : (b : Bool) → eqb q p ≡ b → Left (sweep t) (λ k. cond b k (sweep t k)) w v n w₂ v₂ n₂
    sweep-left b g =
        let h = r.room in
        left-then (sweep t) (sweep t) (λ k. cond b k (sweep t k)) (round (line_count w₁) 0 t) (omega arith) a.left d
        (λ k m. sweep-step k m ∙ ap (λ (x : Bool). cond x (round (line_count w₁) 0 t k) (sweep t (round (line_count w₁) 0 t k))) g)

    -- it lined somebody up
    pub sweep-on : q ≢ p → length w₂ ≡ length w₁ → length v₂ ≡ length v₁ → SweepTo t w v n w₂ v₂ n₂ q
    sweep-on h z y = record { ready = round-ready t d y a.ready; size = z ∙ a.size; room = y ∙ a.room; pending = f; left = sweep-left false (eqb-other h) }

    -- it lined nobody up
    pub sweep-stops : q ≡ p → Does (sweep t) w v n w₂ v₂ n₂
    sweep-stops h = left-done (sweep t) (λ k. k) (sweep-left true (ap (λ (x : ℕ). eqb x p) h ∙ eqb_same p)) (λ k. refl)

pub sweep-start : {w v : List ℕ} {n p : ℕ} (t : ℕ) → Ready w v n → p ≡ pendings (market_of w).lines → SweepTo t w v n w v n p
sweep-start t r e = record { ready = r; size = refl; room = refl; pending = e; left = left-start (sweep t) r.sound.sized }

-- nobody is pending
pub sweep-done : {w v : List ℕ} {n : ℕ} {w₁ v₁ : List ℕ} {n₁ p : ℕ} (t : ℕ) → Ready w v n → p ≤ 0 → SweepTo t w v n w₁ v₁ n₁ p → Does (sweep t) w v n w₁ v₁ n₁
sweep-done {w₁ = w₁} t r h a =
    let o = r.room in
    left-done (sweep t) (λ k. k)
    (left-then (sweep t) (sweep t) (λ k. k) (λ k. k) (omega arith) a.left (does-none a.ready.sound.sized)
    (λ k m. sweep-idle t k (let b = a.pending in let c = ap (λ (x : Market). pendings x.lines) m in omega arith)))
    (λ k. refl)
