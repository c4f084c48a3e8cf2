-- Laws of a book event by its line's answer, and of a connection's book event.
use Rattle.std.specs.Prelude.{Result, Ok, Err}
use mathlib.Core.Path.{◌≡◌, refl, sym, ap, ◌∙◌, subst}
use mathlib.Core.List.{List}
use mathlib.Core.Bool.{Bool, true, false, cond}
use mathlib.Core.Logic.{◌⊎◌, inl, inr}
use Prim.Native.Nat.{ℕ, ◌≤◌, ◌<◌}
use lib.ListN.{length}
use Rattle.rules.specs.declared.Step.{Step}
use Rattle.rules.specs.declared.refusal.Refusal.{Refusal}
use Rattle.rules.specs.Quantities.{Key}
use Rattle.rules.specs.Log.{keys}
use Rattle.rules.specs.Lines as Rules
use Rattle.rules.specs.Lines.{conn_at, set_line, line_for}
use Rattle.rules.specs.Calls.{Answer, just, duplicate, held, ignored, diverged, failed, refuse, refused, full_log, full_numbers, book_event}
use Rattle.rules.specs.Answers.{Said, number, word, number_of, of_step}
use Rattle.rules.proofs.Tests.{ff≢tt}
use Rattle.lines.specs.declared.Stepped.{Stepped}
use Rattle.lines.specs.Line.{line_of, Steps}
use Rattle.lines.specs.Steps.{after_event}
use Rattle.lines.proofs.Laws.{stands-empty}
use Rattle.lines.proofs.HeldLaws.{refuted, event-empties}
use Rattle.store.specs.Store.{line_count, market_of, Sound}
use Rattle.store.specs.Moves.{Moved}
use Rattle.store.specs.ConnMoves.{items_at}
use Rattle.market.specs.Lent.{Lent, lent, Answers}
use Rattle.market.proofs.AnswerLaws.{refuses, justly}
use Rattle.market_snapshots.specs.Snapshots.{fullness}
use Rattle.market_snapshots.proofs.SnapshotLaws.{numbers-room, line-past, stays}
use Rattle.market_events.specs.Events.{step_at, event_at}
use Rattle.market_events.proofs.StepLaws.{step-ends}
use Rattle.market_events.proofs.EventLaws.{book-by, book-sound}

-- 5 comes before 9
at-end : (a b : Bool) (n : ℕ) → n ≡ 9 → b ≡ true → refuse a 5 (refused n) ≡ refused (cond a 5 (cond b 9 0))
at-end true b n e f = refl
at-end false true n e f = ap refused e
at-end false false n e f = absurd (ff≢tt refl f)

module _ {w : List ℕ} {i : ℕ} (key : Key) (msg t : ℕ) (s : Sound w) (h : i < line_count w) (stepped : Stepped)
    (e : Steps stepped (step_at i key msg (market_of w))) where
  -- the answer x, with this step
  module _ {step : Result Step Refusal} (x : Answer) (a : stepped.step ≡ step) (o : of_step step ≡ word x 0 0) where
    told : of_step stepped.step ≡ word x 0 0
    told = ap of_step a ∙ o

    book-told : event_at i key msg t (market_of w) ≡ after_event i key msg t (market_of w) ((step_at i key msg (market_of w)).0, word x 0 0)
    book-told = book-by key msg t s h (word x 0 0) (sym e.answer ∙ told)

    -- it leaves the market as it is, or with the line that the step handed back
    book-stays : {v : List ℕ} → after_event i key msg t (market_of w) ((step_at i key msg (market_of w)).0, word x 0 0) ≡ just x (market_of w)
        → Answers (event_at i key msg t (market_of w)) (lent w v) (of_step step) (lent w v)
    book-stays q = rw o (stays x s (book-told ∙ q))

    book-sets : {v w₁ : List ℕ} → (word x 0 0 ≡ word held 0 0 → ⊥)
        → after_event i key msg t (market_of w) ((step_at i key msg (market_of w)).0, word x 0 0)
        ≡ just x (set_line i (step_at i key msg (market_of w)).0 (market_of w))
        → length w₁ ≡ length w → Moved w w₁ (set_line i (line_of stepped.line (items_at w i)) (market_of w))
        → Answers (event_at i key msg t (market_of w)) (lent w v) (of_step step) (lent w₁ v)
    book-sets {v} {w₁} f q l d =
        let m = market_of w in
        let empty = event-empties (conn_at i m).limit m.log.base (keys m.log) key msg (conn_at i m).line (λ y. f (sym told ∙ e.answer ∙ y)) in
        let line : line_of stepped.line (items_at w i) ≡ (step_at i key msg m).0 = stands-empty e.line empty (items_at w i) in
        rw o
        (justly x s l (subst (λ (y : Rules.Line). Moved w w₁ (set_line i y m)) line d) (book-told ∙ q) (book-sound key msg t s h))

  -- by the step
  module _ {step : Step} (a : stepped.step ≡ Ok step) where
    said : {u : Step} → step ≡ u → of_step (Ok step) ≡ of_step (Ok u)
    said p = ap (λ (u : Step). of_step (Ok u)) p

    pub book-lined : {v w₁ : List ℕ} → (step ≡ Step.Duplicate) ⊎ (step ≡ Step.Failed) → length w₁ ≡ length w
        → Moved w w₁ (set_line i (line_of stepped.line (items_at w i)) (market_of w))
        → Answers (event_at i key msg t (market_of w)) (lent w v) (of_step (Ok step)) (lent w₁ v)
    book-lined (inl p) l d = book-sets duplicate a (said p) (λ y. refuted (cc)) refl l d
    book-lined (inr p) l d = book-sets failed a (said p) (λ y. refuted (cc)) refl l d

    pub book-kept : {v : List ℕ} → (step ≡ Step.Ignored) ⊎ (step ≡ Step.Diverged)
        → Answers (event_at i key msg t (market_of w)) (lent w v) (of_step (Ok step)) (lent w v)
    book-kept (inl p) = book-stays ignored a (said p) refl
    book-kept (inr p) = book-stays diverged a (said p) refl

  -- the line has no number left: the numbers are full
  module _ {n : Refusal} (a : stepped.step ≡ Err n) where
    numberless : (number_of n ≡ 9) × (full_numbers (market_of w) ≡ true)
    numberless = step-ends s h key msg (number_of n) (sym e.answer ∙ ap of_step a)

    pub book-refused : {v : List ℕ} (x : Refusal) → number_of x ≡ fullness (market_of w)
        → Answers (event_at i key msg t (market_of w)) (lent w v) (number (number_of x)) (lent w v)
    book-refused {v} x q =
        let m = market_of w in
        refuses (number_of x) (lent w v)
        (book-by key msg t s h (number (number_of n)) (sym e.answer ∙ ap of_step a)
        ∙ at-end (full_log m) (full_numbers m) (number_of n) numberless.0 numberless.1
        ∙ ap refused (sym q))

    pub book-roomless : fullness (market_of w) ≡ 0 → ⊥
    book-roomless q = ff≢tt (numbers-room (market_of w) q) numberless.1

-- ---- of a connection

pub book-past : {w v : List ℕ} (i : ℕ) (key : Key) (msg t : ℕ) → Sound w → line_count w ≤ i
    → Answers (event_at i key msg t (market_of w)) (lent w v) (word ignored 0 0) (lent w v)
unfolding book_event
book-past {w} i key msg t s h = stays ignored s (ap (book_event i key msg t (market_of w)) (line-past w i h))

-- by the place of its line
pub book-found : {w v : List ℕ} {x : Said} {y : Lent} (conn i : ℕ) (key : Key) (msg t : ℕ) → i ≡ Rules.line_of conn (market_of w)
    → Answers (event_at i key msg t (market_of w)) (lent w v) x y
    → Answers (book_event (Rules.line_of conn (market_of w)) key msg t (market_of w) (line_for conn (market_of w))) (lent w v) x y
book-found {w} {v} {x} {y} conn i key msg t e z =
    subst (λ (j : ℕ). Answers (event_at j key msg t (market_of w)) (lent w v) x y) e z
