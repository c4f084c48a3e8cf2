-- Laws of a book event that its line holds, and of a pending line's try at line-up.
use mathlib.Core.Path.{◌≡◌, refl, sym, ap, ◌∙◌, subst}
use mathlib.Core.List.{List}
use mathlib.Core.Bool.{Bool, true, false, cond}
use Prim.Native.Nat.{ℕ, ◌<◌}
use native.Mathlib.Omega.{arith}
use lib.Dec.{eqb}
use lib.ListN.{length}
use Rattle.rules.specs.declared.Item.TheVariants as Item
use Rattle.rules.specs.declared.refusal.Refusal.{Refusal}
use Rattle.rules.specs.Quantities.{Key, area_items}
use Rattle.rules.specs.Lines.{Market, conn_at, items_of, is_pending, is_in_line, set_line}
use Rattle.rules.specs.Entering.{begin, sweep}
use Rattle.rules.specs.Calls.{Outcome, just, apply, duplicate, held}
use Rattle.rules.specs.Answers.{Said, number, word, number_of}
use Rattle.rules.proofs.Tests.{eqb_same}
use Rattle.rules.proofs.SoundMoves.{try_line_up-sound}
use Rattle.rules.proofs.SoundCalls.{room_for, Safe, begin-sound, book-safe}
use Rattle.lines.specs.declared.Line.{Line}
use Rattle.lines.specs.Line.{line_of, holding}
use Rattle.lines.specs.Area.{head_line}
use Rattle.lines.specs.Steps.{after_event, unless_full, held_event}
use Rattle.lines.proofs.Laws.{stands-over}
use Rattle.lines.proofs.HeldLaws.{by_answer, Holds}
use Rattle.lines.proofs.StepLaws.{book-event-steps}
use Rattle.store.specs.Store.{limits_of, line_count, line_words_at, market_of, Sound}
use Rattle.store.specs.Moves.{Moved}
use Rattle.store.specs.ConnMoves.{items_at, LineAt, ItemRoom}
use Rattle.store.proofs.MarketLaws.{lines-count}
use Rattle.store.proofs.FrameLaws.{moved-sound}
use Rattle.store.proofs.ConnLaws.{line-told, items-said}
use Rattle.moves.proofs.DoesLaws.{moved_none}
use Rattle.moves.proofs.LiningLaws.{try_line_up-count}
use Rattle.market.specs.Lent.{lent, Answers, Roomy}
use Rattle.market.proofs.AnswerLaws.{refuses, safe-as, justly}
use Rattle.market_snapshots.specs.Snapshots.{fullness, Released, tried}
use Rattle.market_snapshots.proofs.SnapshotLaws.{not_full, if-full, line_at, line-sound, tried-none, tried-some, released-from}
use Rattle.market_snapshots.proofs.HoldLaws.{hold-room, held_moved, held-line, held-here, held-roomy}
use Rattle.market_events.specs.Events.{step_at, event_at, Becomes, line_up_answers}
use Rattle.market_events.proofs.StepLaws.{step-holds}

-- ---- by the line's answer

module _ {w : List ℕ} {i : ℕ} (key : Key) (msg t : ℕ) (s : Sound w) (h : i < line_count w) where
  pub book-by : (a : Said) → (step_at i key msg (market_of w)).1 ≡ a
      → event_at i key msg t (market_of w) ≡ after_event i key msg t (market_of w) ((step_at i key msg (market_of w)).0, a)
  book-by a e =
      book-event-steps i key msg t (market_of w) (conn_at i (market_of w)).line (line-sound s h)
      ∙ by_answer (after_event i key msg t (market_of w)) (step_at i key msg (market_of w)) a e

  pub book-sound : Safe (limits_of w) (event_at i key msg t (market_of w))
  book-sound = safe-as w (event_at i key msg t (market_of w)) (book-safe i key msg t (market_of w) (conn_at i (market_of w)).line refl s.market)

-- ---- held

module _ {w v : List ℕ} {i : ℕ} {line : Line} (key : Key) (msg t : ℕ) (r : Roomy w v) (p : Becomes w i key msg line (word held 0 0)) where
  holds : Holds (area_items (limits_of w)) (Item.Event key msg) (conn_at i (market_of w)).line (step_at i key msg (market_of w)).0
  holds = step-holds r.sound p.here key msg p.answer

  book-held : event_at i key msg t (market_of w) ≡ unless_full (market_of w) (held_event i t (market_of w) (step_at i key msg (market_of w)).0)
  book-held = book-by key msg t r.sound p.here (word held 0 0) p.answer

  pub held-full : (x : Refusal) → number_of x ≡ fullness (market_of w)
      → Answers (event_at i key msg t (market_of w)) (lent w v) (number (number_of x)) (lent w v)
  held-full x b =
      refuses (number_of x) (lent w v) (book-held ∙ if-full x (market_of w) (held_event i t (market_of w) (step_at i key msg (market_of w)).0) b)

  pub held-room : ItemRoom w i (Item.Event key msg)
  held-room = hold-room r p.here tt holds

  module _ (b : fullness (market_of w) ≡ 0) {w₁ : List ℕ}
      (d : Moved w w₁ (set_line i (holding (Item.Event key msg) (conn_at i (market_of w)).line) (market_of w))) where
    goes_on : event_at i key msg t (market_of w) ≡ held_event i t (market_of w) (step_at i key msg (market_of w)).0
    goes_on = book-held ∙ not_full (market_of w) (held_event i t (market_of w) (step_at i key msg (market_of w)).0) b

    pub pending-asks : Roomy w₁ v × (i < line_count w₁)
    pending-asks = (held-roomy r p.here tt holds d b, held-here r p.here tt holds d)

    -- what the value tells, it tells of the line that holds the event
    pending-said : {x : Bool} → ((u : List ℕ) → x ≡ is_pending (line_of line u)) → is_pending (step_at i key msg (market_of w)).0 ≡ x
    pending-said e =
        let now : (conn_at i (market_of w₁)).line ≡ (step_at i key msg (market_of w)).0 = held-line r p.here tt holds d in
        let n = length (items_of (conn_at i (market_of w₁)).line) in
        sym (e (items_at w₁ i) ∙ ap is_pending (stands-over p.stands n (items_at w₁ i) (items-said w₁ i pending-asks.1 n refl ∙ ap items_of now)))

    module _ {x : Bool} (e : (u : List ℕ) → x ≡ is_pending (line_of line u)) where
      pub held-tries : {w₂ v₂ : List ℕ} {y : Said} → x ≡ true → length w₁ ≡ length w → Answers (line_up_answers i t (market_of w₁)) (lent w₁ v) y (lent w₂ v₂)
          → Answers (event_at i key msg t (market_of w)) (lent w v) y (lent w₂ v₂)
      held-tries {w₂} {v₂} {y} q l z =
          let m = set_line i (step_at i key msg (market_of w)).0 (market_of w) in
          let o : event_at i key msg t (market_of w) ≡ line_up_answers i t (market_of w₁) =
          goes_on
          ∙ ap (λ (f : Bool). cond f (line_up_answers i t m) (just held m)) (pending-said e ∙ q)
          ∙ ap (line_up_answers i t) (sym (held_moved r p.here tt holds d).market) in
          subst (λ (u : Outcome). Answers u (lent w v) y (lent w₂ v₂)) (sym o) (released-from _ t (tried i t (market_of w₁)) l z)

      pub held-waits : x ≡ false → length w₁ ≡ length w → Answers (event_at i key msg t (market_of w)) (lent w v) (word held 0 0) (lent w₁ v)
      held-waits q l =
          let m = set_line i (step_at i key msg (market_of w)).0 (market_of w) in
          justly held r.sound l (held_moved r p.here tt holds d)
          (goes_on ∙ ap (λ (f : Bool). cond f (line_up_answers i t m) (just held m)) (pending-said e ∙ q))
          (book-sound key msg t r.sound p.here)

-- ---- a pending line's try

module _ {w v w₁ v₁ : List ℕ} {i t n : ℕ} (r : Roomy w v) (h : i < line_count w) (g : Released i t w v w₁ v₁ n) where
  pub tries-some : length w₁ ≡ length w → (n ≡ 0 → ⊥) → Answers (line_up_answers i t (market_of w)) (lent w v) (word apply n 0) (lent w₁ v₁)
  tries-some l z = tried-some _ r.sound r (moved_none r.sound.sized) refl l g refl z

  -- with nothing put out, the try is all that was done
  module _ (z : n ≡ 0) where
    tried-moved : Moved w w₁ (tried i t (market_of w)).market
    tried-moved =
        subst (λ (b : Bool). Moved w w₁ (cond b (tried i t (market_of w)) (sweep t (tried i t (market_of w)))).market)
        (g.nothing ∙ ap (λ (x : ℕ). eqb x 0) z ∙ eqb_same 0) g.goes.moved

    tried_here : i < line_count w₁
    tried_here =
        omega (arith, lines-count w, lines-count w₁, ap (λ (m : Market). length m.lines) tried-moved.market, try_line_up-count i t (begin (market_of w)), h)

    pub tried-at : LineAt w₁ i
    tried-at =
        let s = try_line_up-sound (room_for (market_of w).limits) false i t (begin (market_of w)) (begin-sound (market_of w) r.sound.market) in
        line_at (moved-sound r.sound tried-moved s.sound) tried_here

    pub tries-none : (self : Line) (b : Bool) → self ≡ head_line (line_words_at w₁ i) → ((x : List ℕ) → b ≡ is_in_line (line_of self x)) → length w₁ ≡ length w
        → {f : Bool} → b ≡ f → Answers (line_up_answers i t (market_of w)) (lent w v) (word (cond f duplicate held) 0 0) (lent w₁ v₁)
    tries-none self b q e l u =
        let said : is_in_line (conn_at i (tried i t (market_of w)).market).line ≡ b =
        ap (λ (m : Market). is_in_line (conn_at i m).line) (sym tried-moved.market) ∙ sym (line-told w₁ i tried_here is_in_line (λ x. b) self e q) in
        subst (λ (f : Bool). Answers (line_up_answers i t (market_of w)) (lent w v) (word (cond f duplicate held) 0 0) (lent w₁ v₁)) (said ∙ u)
        (tried-none _ r.sound r (moved_none r.sound.sized) refl l g refl z)
