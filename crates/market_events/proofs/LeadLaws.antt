-- Laws of a book event that a line in line brings first: pushed and put out, and the line goes on.
use mathlib.Core.Path.{◌≡◌, refl, sym, ap, ◌∙◌, subst}
use mathlib.Core.List.{List, []}
use Prim.Native.Nat.{ℕ, ◌+◌, ◌≤◌, ◌<◌}
use native.Mathlib.Omega.{arith}
use lib.ListN.{length}
use Rattle.rules.specs.declared.Limits.{Limits}
use Rattle.rules.specs.declared.refusal.Refusal.{Refusal}
use Rattle.rules.specs.Quantities.{Key}
use Rattle.rules.specs.Log.{end}
use Rattle.rules.specs.Lines as Rules
use Rattle.rules.specs.Lines.{Market, conn_at, items_of, item_count, set_line}
use Rattle.rules.specs.Entering.{Work, begin, on_market, push_out, sweep}
use Rattle.rules.specs.Calls.{did, apply}
use Rattle.rules.specs.Answers.{Said, number, word, number_of}
use Rattle.rules.specs.Sound.{LineSound}
use Rattle.rules.proofs.Tests.{leb-false}
use Rattle.rules.proofs.SoundMoves.{SoundW, push_out-pushed}
use Rattle.rules.proofs.SoundCalls.{room_for, pushed-sound}
use Rattle.lines.specs.declared.Line.{Line}
use Rattle.lines.specs.Line.{line_of}
use Rattle.lines.specs.Steps.{unless_full}
use Rattle.lines.proofs.Laws.{stands-empty}
use Rattle.lines.proofs.HeldLaws.{Leads}
use Rattle.store.specs.Store.{limits_of, market_of}
use Rattle.store.specs.Moves.{Moved}
use Rattle.store.specs.ConnMoves.{items_at, LineAt}
use Rattle.store.proofs.MarketLaws.{market-limits, entry-count, lines-count}
use Rattle.store.proofs.FrameLaws.{moved-limits}
use Rattle.store.proofs.ConnLaws.{lined-sound}
use Rattle.store.proofs.EntryLaws.{counts}
use Rattle.moves.specs.Does.{Goes, Does, Ready, PushRoom}
use Rattle.moves.proofs.DoesLaws.{goes_then, goes-is, does-market}
use Rattle.market.specs.Lent.{lent, Answers, Roomy}
use Rattle.market.proofs.AnswerLaws.{ready_at, refuses, answered, room-one}
use Rattle.market_snapshots.specs.Snapshots.{fullness}
use Rattle.market_snapshots.proofs.SnapshotLaws.{log-room, numbers-room, not_full, if-full, line-here, line-sound}
use Rattle.market_events.specs.Events.{step_at, event_at, Becomes}
use Rattle.market_events.proofs.StepLaws.{step-leads}
use Rattle.market_events.proofs.EventLaws.{book-by, book-sound}

module _ {w v : List ℕ} {i : ℕ} {line : Line} (key : Key) (msg t : ℕ) (r : Roomy w v) (p : Becomes w i key msg line (word apply 1 0)) where
  -- the line then, and the call under way
  new : Rules.Line
  new = (step_at i key msg (market_of w)).0

  push : Work
  push = on_market (set_line i new) (push_out (conn_at i (market_of w)).conn t key msg (begin (market_of w)))

  leads : Leads (conn_at i (market_of w)).line (step_at i key msg (market_of w))
  leads = step-leads r.sound p.here key msg 1 p.answer

  book-new : event_at i key msg t (market_of w) ≡ unless_full (market_of w) (did apply [] (sweep t push))
  unfolding new push
  book-new = book-by key msg t r.sound p.here (word apply 1 0) p.answer

  pub new-full : (x : Refusal) → number_of x ≡ fullness (market_of w)
      → Answers (event_at i key msg t (market_of w)) (lent w v) (number (number_of x)) (lent w v)
  new-full x b = refuses (number_of x) (lent w v) (book-new ∙ if-full x (market_of w) (did apply [] (sweep t push)) b)

  module _ (b : fullness (market_of w) ≡ 0) where
    pub new-room : PushRoom w v 0
    new-room =
        let x : length (market_of w).log.entries + item_count (market_of w).lines < (market_of w).limits.G = leb-false (log-room (market_of w) b) in
        record {
          sized = r.sound.sized;
          entries = omega (arith, x, entry-count w, ap (λ (l : Limits). l.G) (market-limits w));
          numbers = (counts r.sound).numbers;
          room = room-one r;
        }

    module _ {w₁ v₁ : List ℕ} {n : ℕ} (conn : ℕ) (e : conn ≡ (conn_at i (market_of w)).conn) (f : Does (push_out conn t key msg) w v 0 w₁ v₁ n) where
      pub new-at : LineAt w₁ i
      new-at =
          let g = f (begin (market_of w)) refl in
          let q = push_out-pushed conn t key msg (begin (market_of w)) in
          let x = ap (λ (m : Market). length m.lines) g.moved.market ∙ ap length q.lines in
          let y = ap (λ (l : Limits). l.L) (moved-limits g.moved ∙ q.limits ∙ market-limits w) in
          record {
            lined = record { sized = g.moved.sized; count = omega (arith, x, y, lines-count w, lines-count w₁, (lined-sound w r.sound).count) };
            here = omega (arith, x, lines-count w, lines-count w₁, p.here);
          }

      module _ {w₂ : List ℕ} (x : Moved w₁ w₂ (set_line i (line_of line (items_at w₁ i)) (market_of w₁))) where
        -- in line, it holds nothing: the value is the line over any words
        new_is : line_of line (items_at w₁ i) ≡ new
        unfolding new
        new_is = stands-empty p.stands (ap (λ (y : Rules.Line × Said). items_of y.0) leads.is) (items_at w₁ i)

        new-goes : Goes w v 0 w₂ v₁ n (begin (market_of w)) push
        unfolding push
        new-goes =
            let g = f (begin (market_of w)) refl in
            goes-is (λ j. on_market (set_line i (new_is j)) (push_out (e j) t key msg (begin (market_of w))))
            (goes_then (omega arith) g
            (does-market (set_line i (line_of line (items_at w₁ i))) x (push_out conn t key msg (begin (market_of w))) (sym g.moved.market)))

        new-sound : SoundW (room_for (limits_of w)) push
        unfolding new push
        new-sound =
            let m = market_of w in
            let on : Rules.Line → Work = λ l. on_market (set_line i l) (push_out (conn_at i m).conn t key msg (begin m)) in
            let was = leads.was in
            let upto : leads.next ≤ end m.log = subst (LineSound m.limits (end m.log)) was (line-sound r.sound p.here) in
            subst (λ (l : Limits). SoundW (room_for l) (on (step_at i key msg m).0)) (market-limits w)
            (subst (λ (y : Rules.Line × Said). SoundW (room_for m.limits) (on y.0)) (sym leads.is)
            (pushed-sound i key msg t m leads.next leads.due0 leads.due1 (line-here r.sound p.here)
            (ap (λ (l : Rules.Line). length (items_of l)) was) upto r.sound.market (log-room m b) (numbers-room m b)))

        pub new-ready : length v₁ ≡ length v → Ready w₂ v₁ n
        new-ready l = ready_at r l new-goes new-sound

        pub new-done : {w₃ v₃ : List ℕ} {y : ℕ} → length w₃ ≡ length w → Does (sweep t) w₂ v₁ n w₃ v₃ y
            → Answers (event_at i key msg t (market_of w)) (lent w v) (word apply y 0) (lent w₃ v₃)
        new-done l g =
            answered apply r.sound l (goes_then (omega arith) new-goes (g push (sym new-goes.moved.market)))
            (book-new ∙ not_full (market_of w) (did apply [] (sweep t push)) b) (book-sound key msg t r.sound p.here)
