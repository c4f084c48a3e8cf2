-- Laws of a snapshot by its line's answer: held, due, or neither; and of a connection's snapshot.
use Rattle.std.specs.Prelude.{Result, Ok, Err}
use mathlib.Core.Path.{◌≡◌, refl, sym, ap, ◌∙◌, subst}
use mathlib.Core.List.{List, []}
use mathlib.Core.Bool.{Bool, true, false, cond}
use Prim.Native.Nat.{ℕ, ◌≤◌, ◌<◌}
use native.Mathlib.Omega.{arith}
use lib.ListN.{length}
use lib.Seq.{get_or-set_same}
use Rattle.rules.specs.declared.Item.TheVariants as Item
use Rattle.rules.specs.declared.Step.{Step}
use Rattle.rules.specs.declared.refusal.Refusal.{Refusal}
use Rattle.rules.specs.Log.{end}
use Rattle.rules.specs.Lines as Rules
use Rattle.rules.specs.Lines.{Connection, Market, conn_at, nobody, items_of, is_failed, someone, set_line, line_for}
use Rattle.rules.specs.Entering.{Work, begin, take_over}
use Rattle.rules.specs.Calls.{Outcome, did, just, apply, duplicate, held, ignored, diverged, failed, released, snapshot}
use Rattle.rules.specs.Answers.{Said, number, word, number_of, of_step}
use Rattle.rules.specs.Sound.{LineSound}
use Rattle.rules.proofs.SoundCalls.{snapshot-safe}
use Rattle.lines.specs.declared.Stepped.{Stepped}
use Rattle.lines.specs.Line.{line_of, holding, complete, holds_both, Steps}
use Rattle.lines.specs.Steps.{after_snapshot, unless_full, held_snapshot}
use Rattle.lines.proofs.Laws.{stands-empty}
use Rattle.lines.proofs.HeldLaws.{by_answer, snapshot-applies}
use Rattle.lines.proofs.StepLaws.{snapshot-steps}
use Rattle.store.specs.Store.{line_count, market_of, Sound}
use Rattle.store.specs.Moves.{Moved}
use Rattle.store.specs.ConnMoves.{items_at, NotFailed, ItemRoom}
use Rattle.moves.specs.Does.{Does, Ready}
use Rattle.moves.proofs.DoesLaws.{goes_then, goes-is}
use Rattle.market.specs.Lent.{Lent, lent, Answers, Roomy}
use Rattle.market.proofs.AnswerLaws.{ready-begin, goes-just, refuses, safe-as, answered, answers-from}
use Rattle.market_snapshots.specs.Snapshots.{fullness, step_at, snapshot_at, Fits, tried, completed}
use Rattle.store.proofs.ConnLaws.{line-again}
use Rattle.market_snapshots.proofs.SnapshotLaws.{not_full, if-full, line-here, line-sound, line-past, changed-self, stays, released-from}
use Rattle.market_snapshots.proofs.StepLaws.{step-holds}
use Rattle.market_snapshots.proofs.HoldLaws.{hold-room, held_moved, held-line, held-here, held-roomy, take_over-aside}

-- ---- held

-- a line whose snapshot may be complete is never refused
completed-from : {w v w₁ w₂ v₂ : List ℕ} {x : Said} (i t : ℕ) (m : Market) → length w₁ ≡ length w → Answers (completed i t m) (lent w₁ v) x (lent w₂ v₂)
    → Answers (completed i t m) (lent w v) x (lent w₂ v₂)
completed-from {w} {v} {w₁} {w₂} {v₂} {x} i t m l y =
    go (holds_both (items_of (conn_at i m).line)) (tried i t (set_line i (complete t (conn_at i m).line) m)) y
  where
    go : (b : Bool) (k : Work) → Answers (cond b (released held t k) (just held m)) (lent w₁ v) x (lent w₂ v₂)
        → Answers (cond b (released held t k) (just held m)) (lent w v) x (lent w₂ v₂)
    go true k y = released-from held t k l y
    go false k y = answers-from l refl y

-- the line became `new`: what is left to do by the market that has it
completed-new : (i t : ℕ) (m : Market) (new : Rules.Line) → i < length m.lines → someone m.lines ≡ true
    → held_snapshot i t m new ≡ completed i t (set_line i new m)
completed-new i t m new h e =
    let m₁ = set_line i new m in
    let q : (conn_at i m₁).line ≡ new = ap (λ (c : Connection). c.line) (get_or-set_same m.lines i _ nobody h) in
    let p : set_line i (complete t new) m ≡ set_line i (complete t new) m₁ = sym (line-again i new (complete t new) (conn_at i m).held m h) in
    ap (λ (b : Bool). cond b (cond (holds_both (items_of new)) (released held t (tried i t (set_line i (complete t new) m))) (just held m₁))
    (did apply [] (take_over i (items_of new) t (begin m)))) e
    ∙ ap (λ (y : Market). cond (holds_both (items_of new)) (released held t (tried i t y)) (just held m₁)) p
    ∙ ap (λ (l : Rules.Line). cond (holds_both (items_of l)) (released held t (tried i t (set_line i (complete t l) m₁))) (just held m₁)) (sym q)

module _ {w v : List ℕ} {i : ℕ} (token msg t : ℕ) (r : Roomy w v) (h : i < line_count w) (k : token ≤ 1)
    (e : (step_at i token msg (market_of w)).1 ≡ word held 0 0) where
  snap-held : snapshot_at i token msg t (market_of w) ≡ unless_full (market_of w) (held_snapshot i t (market_of w) (step_at i token msg (market_of w)).0)
  snap-held =
      snapshot-steps i token msg t (market_of w) (conn_at i (market_of w)).line
      ∙ by_answer (after_snapshot i msg t (market_of w)) (step_at i token msg (market_of w)) (word held 0 0) e

  pub held-full : (x : Refusal) → number_of x ≡ fullness (market_of w)
      → Answers (snapshot_at i token msg t (market_of w)) (lent w v) (number (number_of x)) (lent w v)
  held-full x b =
      refuses (number_of x) (lent w v) (snap-held ∙ if-full x (market_of w) (held_snapshot i t (market_of w) (step_at i token msg (market_of w)).0) b)

  pub held-room : ItemRoom w i (Item.Snapshot token msg)
  held-room = hold-room r h k (step-holds r.sound h token msg e)

  module _ (b : fullness (market_of w) ≡ 0) {w₁ : List ℕ}
      (d : Moved w w₁ (set_line i (holding (Item.Snapshot token msg) (conn_at i (market_of w)).line) (market_of w))) where
    goes_on : snapshot_at i token msg t (market_of w) ≡ held_snapshot i t (market_of w) (step_at i token msg (market_of w)).0
    goes_on = snap-held ∙ not_full (market_of w) (held_snapshot i t (market_of w) (step_at i token msg (market_of w)).0) b

    pub complete-asks : Roomy w₁ v × (i < line_count w₁)
    complete-asks = let x = step-holds r.sound h token msg e in (held-roomy r h k x d b, held-here r h k x d)

    pub take-over-asks : Ready w₁ v 0 × ((i < line_count w₁) × NotFailed w₁ i)
    take-over-asks =
        let x = step-holds r.sound h token msg e in
        (ready-begin complete-asks.0, (complete-asks.1, ap is_failed (held-line r h k x d) ∙ x.is))

    pub held-led : {w₂ v₂ : List ℕ} {x : Said} → someone (market_of w).lines ≡ true → length w₁ ≡ length w
        → Answers (completed i t (market_of w₁)) (lent w₁ v) x (lent w₂ v₂)
        → Answers (snapshot_at i token msg t (market_of w)) (lent w v) x (lent w₂ v₂)
    held-led {w₂} {v₂} {x} y l z =
        let o : snapshot_at i token msg t (market_of w) ≡ completed i t (market_of w₁) =
        goes_on
        ∙ completed-new i t (market_of w) (step_at i token msg (market_of w)).0 (line-here r.sound h) y
        ∙ ap (completed i t) (sym (held_moved r h k (step-holds r.sound h token msg e) d).market) in
        subst (λ (u : Outcome). Answers u (lent w v) x (lent w₂ v₂)) (sym o) (completed-from i t (market_of w₁) l z)

    pub held-over : {w₂ v₂ : List ℕ} {y : ℕ} → someone (market_of w).lines ≡ false → length w₂ ≡ length w
        → Does (take_over i (items_of (conn_at i (market_of w₁)).line) t) w₁ v 0 w₂ v₂ y
        → Answers (snapshot_at i token msg t (market_of w)) (lent w v) (word apply y 0) (lent w₂ v₂)
    held-over y l f =
        let new = (step_at i token msg (market_of w)).0 in
        let x = step-holds r.sound h token msg e in
        let on : Moved w w₁ (set_line i new (market_of w)) = held_moved r h k x d in
        let o : snapshot_at i token msg t (market_of w) ≡ did apply [] (take_over i (items_of new) t (begin (market_of w))) = goes_on ∙ rw y in
        let same : take_over i (items_of (conn_at i (market_of w₁)).line) t (begin (market_of w₁)) ≡ take_over i (items_of new) t (begin (market_of w)) =
        (λ j. take_over i (items_of (held-line r h k x d j)) t (begin (on.market j)))
        ∙ take_over-aside i (items_of new) t new (market_of w) (line-here r.sound h) in
        answered apply r.sound l (goes_then (omega arith) (goes-just (changed-self new h r on)) (goes-is same (f (begin (market_of w₁)) refl))) o
        (safe-as w (snapshot_at i token msg t (market_of w))
        (snapshot-safe i token msg t (market_of w) (conn_at i (market_of w)).line k refl r.sound.market))

-- ---- any answer

-- one that leaves the market as it is
abbrev pub Other : Result Step Refusal → Type 0
Other (Ok (Step.Apply n)) = ⊥
Other (Ok Step.Duplicate) = Unit {0}
Other (Ok Step.Held) = ⊥
Other (Ok Step.Ignored) = Unit {0}
Other (Ok Step.Diverged) = Unit {0}
Other (Ok Step.Failed) = Unit {0}
Other (Err x) = Unit {0}

after-other : {w v : List ℕ} (i msg t : ℕ) (l : Rules.Line) (step : Result Step Refusal) → Other step → Sound w
    → Answers (after_snapshot i msg t (market_of w) (l, of_step step)) (lent w v) (of_step step) (lent w v)
after-other i msg t l (Ok (Step.Apply n)) x s = absurd x
after-other i msg t l (Ok Step.Duplicate) x s = stays duplicate s refl
after-other i msg t l (Ok Step.Held) x s = absurd x
after-other i msg t l (Ok Step.Ignored) x s = stays ignored s refl
after-other i msg t l (Ok Step.Diverged) x s = stays diverged s refl
after-other i msg t l (Ok Step.Failed) x s = stays failed s refl
after-other {w} {v} i msg t l (Err n) x s = refuses (number_of n) (lent w v) refl

module _ {w : List ℕ} {i : ℕ} (token msg t : ℕ) (s : Sound w) (h : i < line_count w) (stepped : Stepped)
    (e : Steps stepped (step_at i token msg (market_of w))) where
  snap-said : snapshot_at i token msg t (market_of w) ≡ after_snapshot i msg t (market_of w) ((step_at i token msg (market_of w)).0, of_step stepped.step)
  snap-said =
      snapshot-steps i token msg t (market_of w) (conn_at i (market_of w)).line
      ∙ by_answer (after_snapshot i msg t (market_of w)) (step_at i token msg (market_of w)) (of_step stepped.step) (sym e.answer)

  pub snap-other : {v : List ℕ} (step : Result Step Refusal) → stepped.step ≡ step → Other step
      → Answers (snapshot_at i token msg t (market_of w)) (lent w v) (of_step step) (lent w v)
  snap-other {v} step a x =
      subst (λ (o : Outcome). Answers o (lent w v) (of_step step) (lent w v))
      (sym (snap-said ∙ ap (λ (u : Result Step Refusal). after_snapshot i msg t (market_of w) ((step_at i token msg (market_of w)).0, of_step u)) a))
      (after-other i msg t (step_at i token msg (market_of w)).0 step x s)

  module _ {n : ℕ} (a : stepped.step ≡ Ok (Step.Apply n)) where
    snap-applied : LineSound (market_of w).limits (end (market_of w).log) (step_at i token msg (market_of w)).0
        × (items_of (step_at i token msg (market_of w)).0 ≡ [])
    snap-applied =
        snapshot-applies (market_of w).limits.H token msg (market_of w).limits (end (market_of w).log) n (conn_at i (market_of w)).line (line-sound s h)
        (sym e.answer ∙ ap of_step a)

    snap-line : line_of stepped.line (items_at w i) ≡ (step_at i token msg (market_of w)).0
    snap-line = stands-empty e.line snap-applied.1 (items_at w i)

    pub snap-fits : Fits w i stepped.line
    snap-fits = record { here = h; sound = rw snap-line snap-applied.0; empty = ap items_of snap-line ∙ snap-applied.1 }

    pub snap-due : {v : List ℕ} {x : Said} {y : Lent}
        → Answers (after_snapshot i msg t (market_of w) (line_of stepped.line (items_at w i), word apply 1 0)) (lent w v) x y
        → Answers (snapshot_at i token msg t (market_of w)) (lent w v) x y
    snap-due {v} {x} {y} z =
        subst (λ (o : Outcome). Answers o (lent w v) x y)
        (ap (λ (l : Rules.Line). after_snapshot i msg t (market_of w) (l, word apply 1 0)) snap-line
        ∙ sym (snap-said ∙ ap (λ (u : Result Step Refusal). after_snapshot i msg t (market_of w) ((step_at i token msg (market_of w)).0, of_step u)) a)) z

-- ---- of a connection

pub snap-past : {w v : List ℕ} (i token msg t : ℕ) → Sound w → line_count w ≤ i
    → Answers (snapshot_at i token msg t (market_of w)) (lent w v) (word ignored 0 0) (lent w v)
unfolding snapshot
snap-past {w} i token msg t s h = stays ignored s (ap (snapshot i token msg t (market_of w)) (line-past w i h))

-- by the place of its line
pub snap-found : {w v : List ℕ} {x : Said} {y : Lent} (conn i token msg t : ℕ) → i ≡ Rules.line_of conn (market_of w)
    → Answers (snapshot_at i token msg t (market_of w)) (lent w v) x y
    → Answers (snapshot (Rules.line_of conn (market_of w)) token msg t (market_of w) (line_for conn (market_of w))) (lent w v) x y
snap-found {w} {v} {x} {y} conn i token msg t e z =
    subst (λ (j : ℕ). Answers (snapshot_at j token msg t (market_of w)) (lent w v) x y) e z
