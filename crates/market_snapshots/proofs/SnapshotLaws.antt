-- Laws of the snapshot and the book event: when the log is full, what a line's change leaves, and what a try at line-up answers.
use mathlib.Core.Path.{◌≡◌, refl, sym, ap, ◌∙◌, subst}
use mathlib.Core.List.{List, [], ◌∷◌}
use mathlib.Core.Bool.{Bool, true, false, cond}
use Prim.Native.Nat.{ℕ, ◌+◌, ◌^◌, ◌≤◌, ◌<◌}
use native.Mathlib.Omega.{arith}
use borrow.Author.Tests.{le-leb, lt-leb}
use lib.Dec.{leb, eqb}
use lib.ListN.{length, get_or-eq_default}
use lib.Seq.{get_or-set_same}
use Rattle.rules.specs.declared.Applied.{Applied}
use Rattle.rules.specs.declared.Limits.{Limits}
use Rattle.rules.specs.declared.refusal.Refusal.{Refusal}
use Rattle.rules.specs.Lists.{nil}
use Rattle.rules.specs.Quantities.{max_number}
use Rattle.rules.specs.Log.{end}
use Rattle.rules.specs.Lines as Rules
use Rattle.rules.specs.Lines.{Connection, Market, conn_at, nobody, items_of, item_count, set_line}
use Rattle.rules.specs.Entering.{Work, begin, try_line_up, sweep}
use Rattle.rules.specs.Calls.{Answer, Outcome, refuse, refused, did, just, apply, released, full_log, full_numbers}
use Rattle.rules.specs.Answers.{Said, word, number_of}
use Rattle.rules.specs.Sound as Sounds
use Rattle.rules.specs.Sound.{ConnSound, LineSound}
use Rattle.rules.proofs.Tests.{eqb_same, eqb-other}
use Rattle.rules.proofs.ListLaws.{each_at}
use Rattle.rules.proofs.SoundMoves.{try_line_up-sound}
use Rattle.rules.proofs.SoundCalls.{room_for, Safe, begin-sound, just-safe, shrink, released-safe}
use Rattle.lines.specs.declared.Line.{Line}
use Rattle.lines.specs.Line.{line_of}
use Rattle.lines.specs.Area.{head_line}
use Rattle.lines.specs.Steps.{unless_full}
use Rattle.store.specs.Store.{limits_of, head_of, line_count, line_words_at, market_of, Sound}
use Rattle.store.specs.Moves.{Moved}
use Rattle.store.specs.ConnMoves.{items_at, LineAt}
use Rattle.store.proofs.MarketLaws.{market-limits, entry-count, lines-count}
use Rattle.store.proofs.FrameLaws.{moved-limits}
use Rattle.store.proofs.ConnLaws.{line-words, line-at-kept, fits-sound}
use Rattle.moves.specs.Does.{Goes, Does, Ready}
use Rattle.moves.proofs.DoesLaws.{goes_then, goes-is, ready-then, moved_none}
use Rattle.market.specs.Lent.{lent, Answers, Roomy}
use Rattle.market.proofs.AnswerLaws.{ready-begin, roomy-then, goes-just, safe-as, answered, justly, answers-from}
use Rattle.market_snapshots.specs.Snapshots.{fullness, Released, tried}

-- ---- full

module _ (w : List ℕ) (c n : ℕ) (p : c ≡ (head_of w).count) (e : n ≡ item_count (market_of w).lines) where
  pub full-room : Sound w → c + n < 2 ^ 64
  full-room s = omega (arith, p, e, entry-count w, s.market.lines.log_fits, ap (λ (l : Limits). l.G) (market-limits w), s.sized.events)

  module _ (l : Limits) (q : l ≡ limits_of w) where
    log-said : (b : Bool) → leb l.G (c + n) ≡ b → full_log (market_of w) ≡ b
    log-said b x =
        let g : l.G ≡ (market_of w).limits.G = ap (λ (x : Limits). x.G) (q ∙ sym (market-limits w)) in
        let a : c ≡ length (market_of w).log.entries = p ∙ sym (entry-count w) in
        sym (λ j. leb (g j) (a j + e j)) ∙ x

    pub full-5 : l.G ≤ c + n → 5 ≡ fullness (market_of w)
    full-5 x = rw (log-said true (le-leb l.G (c + n) x))

    module _ (x : c + n < l.G) (y : ℕ) (d : y ≡ end (market_of w).log) where
      numbers-said : (b : Bool) → leb max_number (y + n) ≡ b → full_numbers (market_of w) ≡ b
      numbers-said b z = sym (λ j. leb max_number (d j + e j)) ∙ z

      pub full-9 : max_number ≤ y + n → 9 ≡ fullness (market_of w)
      full-9 z = rw (log-said false (lt-leb l.G (c + n) x), numbers-said true (le-leb max_number (y + n) z))

      pub full-0 : y + n < max_number → 0 ≡ fullness (market_of w)
      full-0 z = rw (log-said false (lt-leb l.G (c + n) x), numbers-said false (lt-leb max_number (y + n) z))

-- 0 is said only where neither is full
flags : (a b : Bool) → ◌≡◌ {A = ℕ} (cond a 5 (cond b 9 0)) 0 → (a ≡ false) × (b ≡ false)
flags true b e = absurd (omega (arith, e))
flags false true e = absurd (omega (arith, e))
flags false false e = (refl, refl)

pub log-room : (m : Market) → fullness m ≡ 0 → full_log m ≡ false
log-room m e = (flags (full_log m) (full_numbers m) e).0

pub numbers-room : (m : Market) → fullness m ≡ 0 → full_numbers m ≡ false
numbers-room m e = (flags (full_log m) (full_numbers m) e).1

-- what is made of an item more, by the number
pub not_full : (m : Market) (o : Outcome) → fullness m ≡ 0 → unless_full m o ≡ o
not_full m o e = rw (log-room m e, numbers-room m e)

-- no refusal has the number 0
numbered : (x : Refusal) → number_of x ≡ 0 → ⊥
numbered Refusal.Unsound e = omega arith
numbered Refusal.Limits e = omega arith
numbered Refusal.Room e = omega arith
numbered Refusal.Lines e = omega arith
numbered Refusal.LogFull e = omega arith
numbered Refusal.AreaFull e = omega arith
numbered Refusal.NoRow e = omega arith
numbered Refusal.CountFull e = omega arith
numbered Refusal.NoNumber e = omega arith
numbered Refusal.Token e = omega arith
numbered Refusal.ViewAnswers e = omega arith
numbered Refusal.LineLimit e = omega arith

pub if-full : (x : Refusal) (m : Market) (o : Outcome) → number_of x ≡ fullness m → unless_full m o ≡ refused (number_of x)
if-full x m o e = go (full_log m) (full_numbers m) e
  where
    go : (a b : Bool) → number_of x ≡ cond a 5 (cond b 9 0) → refuse a 5 (refuse b 9 o) ≡ refused (number_of x)
    go true b e = ap refused (sym e)
    go false true e = ap refused (sym e)
    go false false e = absurd (numbered x e)

-- ---- the i-th line

module _ {w : List ℕ} {i : ℕ} (s : Sound w) (h : i < line_count w) where
  pub line-here : i < length (market_of w).lines
  line-here = let a = lines-count w in omega arith

  -- by value, over the words of its items
  pub line-value : (l : Line) → l ≡ head_line (line_words_at w i) → line_of l (items_at w i) ≡ (conn_at i (market_of w)).line
  line-value l e = ap (λ (x : Line). line_of x (items_at w i)) e ∙ sym (line-words w i h)

  pub line_at : LineAt w i
  line_at = (fits-sound w s i h).at

  pub line-sound : LineSound (market_of w).limits (end (market_of w).log) (conn_at i (market_of w)).line
  line-sound = (each_at (ConnSound (market_of w).limits (end (market_of w).log)) (market_of w).lines i nobody line-here s.market.lines.conns).0

  pub held_fits : length (conn_at i (market_of w)).held ≤ (market_of w).limits.H
  held_fits = subst (λ (l : Limits). length (conn_at i (market_of w)).held ≤ l.H) (sym (market-limits w)) (fits-sound w s i h).prints

  -- with no more items
  pub shrunk : (l : Rules.Line) → LineSound (market_of w).limits (end (market_of w).log) l
      → length (items_of l) ≤ length (items_of (conn_at i (market_of w)).line)
      → Sounds.Sound (set_line i l (market_of w))
  shrunk l ok le = shrink (market_of w) i l (conn_at i (market_of w)).held s.market line-here ok held_fits le

-- a place among the lines that were counted, or past them
pub counted-here : {count i n : ℕ} → n ≡ count → i < n → i < count
counted-here e h = omega arith

pub counted-past : {count i n : ℕ} → n ≡ count → n ≤ i → count ≤ i
counted-past e h = omega arith

-- a connection's line past the last
pub line-past : (w : List ℕ) (i : ℕ) → line_count w ≤ i → (conn_at i (market_of w)).line ≡ Rules.Failed
line-past w i h = let a = lines-count w in ap (λ (c : Connection). c.line) (get_or-eq_default (market_of w).lines nobody {n = i} (omega arith))

-- its line became l
module _ {w v w₁ : List ℕ} {i : ℕ} (l : Rules.Line) (h : i < line_count w) (r : Roomy w v) (d : Moved w w₁ (set_line i l (market_of w))) where
  pub changed-here : i < line_count w₁
  changed-here = (line-at-kept w w₁ i _ d i (line_at r.sound h)).here

  pub changed-line : (conn_at i (market_of w₁)).line ≡ l
  changed-line =
      ap (λ (m : Market). (conn_at i m).line) d.market
      ∙ ap (λ (c : Connection). c.line) (get_or-set_same (market_of w).lines i _ nobody (line-here r.sound h))

  pub changed-limits : limits_of w₁ ≡ limits_of w
  changed-limits = moved-limits d ∙ market-limits w

  pub changed-self : Moved w w₁ (market_of w₁)
  changed-self = record { market = refl; sized = d.sized; kinds = d.kinds }

  pub changed-roomy : Sounds.Sound (set_line i l (market_of w)) → Roomy w₁ v
  changed-roomy s = roomy-then r d (market-limits w) s

-- ---- answers that put nothing out

pub stays : {w v : List ℕ} {o : Outcome} (a : Answer) → Sound w → o ≡ just a (market_of w) → Answers o (lent w v) (word a 0 0) (lent w v)
stays {w} a s e =
    justly a s refl (moved_none s.sized) e (subst (Safe (limits_of w)) (sym e) (safe-as w (just a (market_of w)) (just-safe (market_of w) a s.market)))

-- ---- a try at line-up, and the others swept

nil-count : (xs : List Applied) (n : ℕ) → n ≡ length xs → nil xs ≡ eqb n 0
nil-count [] n e = sym (ap (λ (m : ℕ). eqb m 0) e ∙ eqb_same 0)
nil-count (x ∷ xs) n e = sym (eqb-other (λ (q : n ≡ 0). omega arith))

out_none : {w v w₁ v₁ : List ℕ} {n : ℕ} {m : Market} {k : Work} → Goes w v 0 w₁ v₁ n (begin m) k → nil k.out ≡ eqb n 0
out_none {n} g = ap nil g.out ∙ nil-count g.more n (let c = g.count in omega arith)

module _ {w v w₁ v₁ : List ℕ} {n : ℕ} (i t : ℕ) (d : Does (try_line_up false i t) w v 0 w₁ v₁ n) where
  -- the call under way once the line has tried
  k₁ : Work
  k₁ = tried i t (market_of w)

  pub released-ready : Roomy w v → length v₁ ≡ length v → Ready w₁ v₁ n
  released-ready r l = ready-then (try_line_up false i t) (λ Z k m s. try_line_up-sound Z false i t k s) l d (ready-begin r)

  pub released-none : n ≡ 0 → Released i t w v w₁ v₁ 0
  unfolding k₁
  released-none z =
      let g : Goes w v 0 w₁ v₁ 0 (begin (market_of w)) k₁ = subst (λ (m : ℕ). Goes w v 0 w₁ v₁ m (begin (market_of w)) k₁) z (d (begin (market_of w)) refl) in
      let e = out_none g in
      record { goes = goes-is (sym (ap (λ (b : Bool). cond b k₁ (sweep t k₁)) (e ∙ eqb_same 0))) g; nothing = e }

  pub released-swept : {w₂ v₂ : List ℕ} {r : ℕ} → (n ≡ 0 → ⊥) → Does (sweep t) w₁ v₁ n w₂ v₂ r → Released i t w v w₂ v₂ r
  unfolding k₁
  released-swept {w₂} {v₂} {r} z f =
      let g : Goes w v 0 w₁ v₁ n (begin (market_of w)) k₁ = d (begin (market_of w)) refl in
      let e : nil k₁.out ≡ false = out_none g ∙ eqb-other z in
      let b = f k₁ (sym g.moved.market) in
      let c = b.count in
      record {
        goes = goes-is (sym (ap (λ (x : Bool). cond x k₁ (sweep t k₁)) e)) (goes_then (omega arith) g b);
        nothing = e ∙ sym (eqb-other (λ (q : r ≡ 0). z (omega arith)));
      }

-- what a call answers that changed the words to w₁ and then tried the line
module _ {w v w₁ w₂ v₂ : List ℕ} {r i t : ℕ} {o : Outcome} (a : Answer) (b : Sound w) (s : Roomy w₁ v) (d : Moved w w₁ (market_of w₁))
    (q : limits_of w₁ ≡ limits_of w)
    (l : length w₂ ≡ length w) (g : Released i t w₁ v w₂ v₂ r) (e : o ≡ released a t (tried i t (market_of w₁))) where
  -- the call under way once the line has tried
  k₂ : Work
  k₂ = tried i t (market_of w₁)

  tried-safe : Safe (limits_of w) o
  unfolding k₂
  tried-safe =
      subst (Safe (limits_of w)) (sym e)
      (subst (λ (x : Limits). Safe x (released a t k₂)) (market-limits w₁ ∙ q)
      (released-safe (market_of w₁).limits a t k₂
      (try_line_up-sound (room_for (market_of w₁).limits) false i t (begin (market_of w₁)) (begin-sound (market_of w₁) s.sound.market))))

  tried-goes : Goes w v 0 w₂ v₂ r (begin (market_of w)) (cond (nil k₂.out) k₂ (sweep t k₂))
  unfolding k₂
  tried-goes = goes_then (omega arith) (goes-just d) g.goes

  pub tried-none : r ≡ 0 → Answers o (lent w v) (word a 0 0) (lent w₂ v₂)
  unfolding k₂
  tried-none z =
      let y : nil k₂.out ≡ true = g.nothing ∙ ap (λ (n : ℕ). eqb n 0) z ∙ eqb_same 0 in
      subst (λ (n : ℕ). Answers o (lent w v) (word a n 0) (lent w₂ v₂)) z
      (answered a b l (goes-is (ap (λ (c : Bool). cond c k₂ (sweep t k₂)) y) tried-goes)
      (e ∙ ap (λ (c : Bool). cond c (did a [] k₂) (did apply [] (sweep t k₂))) y) tried-safe)

  pub tried-some : (r ≡ 0 → ⊥) → Answers o (lent w v) (word apply r 0) (lent w₂ v₂)
  unfolding k₂
  tried-some z =
      let y : nil k₂.out ≡ false = g.nothing ∙ eqb-other z in
      answered apply b l (goes-is (ap (λ (c : Bool). cond c k₂ (sweep t k₂)) y) tried-goes)
      (e ∙ ap (λ (c : Bool). cond c (did a [] k₂) (did apply [] (sweep t k₂))) y) tried-safe

-- a call that goes on from words that an earlier move left, and ends by a try
pub released-from : {w v w₁ w₂ v₂ : List ℕ} {x : Said} (a : Answer) (t : ℕ) (k : Work) → length w₁ ≡ length w
    → Answers (released a t k) (lent w₁ v) x (lent w₂ v₂) → Answers (released a t k) (lent w v) x (lent w₂ v₂)
released-from {w} {v} {w₁} {w₂} {v₂} {x} a t k l y = go (nil k.out) y
  where
    go : (b : Bool) → Answers (cond b (did a [] k) (did apply [] (sweep t k))) (lent w₁ v) x (lent w₂ v₂)
        → Answers (cond b (did a [] k) (did apply [] (sweep t k))) (lent w v) x (lent w₂ v₂)
    go true y = answers-from l refl y
    go false y = answers-from l refl y
