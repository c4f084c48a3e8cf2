-- The rules' calls on a line are the steps of Line.
use Rattle.std.specs.Prelude.{Option, None, Some}
use mathlib.Core.Path.{◌≡◌, refl, sym, ap, ◌∙◌}
use mathlib.Core.List.{List, [], ◌∷◌, ◌++◌}
use mathlib.Core.Bool.{Bool, true, false, cond}
use Prim.Native.Nat.{ℕ, suc, ◌+◌, ◌-◌, ◌≤◌}
use native.Mathlib.Omega.{arith}
use lib.Dec.{leb, ltb}
use lib.ListN.{length, get_or, length-map}
use borrow.Author.Tests.{le-leb, leb-true}
use Rattle.rules.specs.declared.Item.{Item}
use Rattle.rules.specs.declared.Item.TheVariants as Item
use Rattle.rules.specs.Quantities.{Key, no_key, same, age, align_timeout, max_number}
use Rattle.rules.specs.Log.{keys, end}
use Rattle.rules.specs.Lines.{Line, Waiting, Pending, InLine, Failed, Market, conn_at, is_pending, item_count, set_line}
use Rattle.rules.specs.Entering.{Work}
use Rattle.rules.specs.Calls.{apply, duplicate, held, ignored, diverged, failed, Outcome, just, refuse, due_for, due_ends, full_numbers, snapshot, book_event}
use Rattle.rules.specs.Tick.{time_out, turn}
use Rattle.rules.specs.Answers.{Said, number, word}
use Rattle.rules.proofs.Tests.{ff≢tt}
use Rattle.lines.specs.declared.Aging.{Aging}
use Rattle.lines.specs.declared.Aging.TheVariants as Aging
use Rattle.lines.specs.Line.{copy_step, time_step}
use Rattle.lines.specs.Steps.{after_event, unless_full, held_snapshot, BookEventSteps, after_snapshot, SnapshotSteps, after_time, TimeSteps}

-- what is made of either case is what is made of the choice
through : {A B : Type 0} (f : A → B) (x : Bool) (a b : A) → cond x (f a) (f b) ≡ f (cond x a b)
through f true a b = refl
through f false a b = refl

-- a line in line at the log's end: where no number is left, none is left for the log either
module _ (i : ℕ) (k : Key) (msg now : ℕ) (m : Market) (n : ℕ) (a b : Bool) (s : n ≤ end m.log) where
  at-end : (x : Bool) → leb max_number n ≡ x
      → after_event i k msg now m (InLine (suc n) a b, word apply 1 0)
      ≡ after_event i k msg now m (cond x (InLine n a b, number 9) (InLine (suc n) a b, word apply 1 0))
  at-end true e =
      let h : max_number ≤ n = leb-true max_number n e in
      let full : full_numbers m ≡ true = le-leb max_number (end m.log + item_count m.lines) (omega arith) in
      rw full
  at-end false e = refl

pub book-event-steps : BookEventSteps
unfolding book_event
book-event-steps i k msg now m (Waiting is since) s =
    through (after_event i k msg now m) (leb (conn_at i m).limit (length is)) (Failed, word failed 0 0)
    (Waiting (is ++ (Item.Event k msg ∷ [])) since, word held 0 0)
book-event-steps i k msg now m (Pending is at since) s =
    through (after_event i k msg now m) (leb (conn_at i m).limit (length is)) (Failed, word failed 0 0)
    (Pending (is ++ (Item.Event k msg ∷ [])) at since, word held 0 0)
book-event-steps i k msg now m (InLine n a b) s =
    let f : Line × Said → Outcome = after_event i k msg now m in
    let base = m.log.base in
    let ks = keys m.log in
    let alike = same (get_or ks (n - base) no_key) k in
    let size : end m.log ≡ base + length ks = ap (λ (c : ℕ). base + c) (sym (length-map m.log.entries (λ e. e.0))) in
    let new : Line × Said = (InLine (suc n) a b, word apply 1 0) in
    let last : Line × Said = cond (leb max_number n) (InLine n a b, number 9) new in
    let copies = through f alike (InLine (suc n) a b, word duplicate 0 0) (InLine n a b, word diverged 0 0) in
    let ends : f new ≡ f last = at-end i k msg now m n a b s (leb max_number n) refl in
    (λ j. cond (ltb n base) (just failed (set_line i Failed m)) (cond (ltb n (size j)) (copies j) (ends j)))
    ∙ ap (cond (ltb n base) (just failed (set_line i Failed m))) (through f (ltb n (base + length ks)) (copy_step alike n a b) last)
    ∙ through f (ltb n base) (Failed, word failed 0 0) (cond (ltb n (base + length ks)) (copy_step alike n a b) last)
book-event-steps i k msg now m Failed s = refl

pub snapshot-steps : SnapshotSteps
unfolding snapshot
snapshot-steps i t msg now m (Waiting is since) = go (leb (m.limits.H + 8) (length is))
  where
    more : Line
    more = Waiting (is ++ (Item.Snapshot t msg ∷ [])) since

    go : (x : Bool) → refuse x 6 (unless_full m (held_snapshot i now m more))
        ≡ after_snapshot i msg now m (cond x (Waiting is since, number 6) (more, word held 0 0))
    go true = refl
    go false = refl
snapshot-steps i t msg now m (Pending is at since) = refl
snapshot-steps i t msg now m (InLine n a b) =
    through (after_snapshot i msg now m) (due_for t a b) (due_ends t n a b, word apply 1 0) (InLine n a b, word ignored 0 0)
snapshot-steps i t msg now m Failed = refl

pub time-steps : TimeSteps
unfolding turn time_out
time-steps = record { turns = turns; ends = ends }
  where
    ends : (i : ℕ) (is : List Item) (at : Option ℕ) (since now : ℕ) (w : Work)
        → time_out i is at since now w ≡ after_time i now w (time_step w.market.log.base now (Pending is at since))
    ends i is None since now w =
        through (after_time i now w) (leb align_timeout (age now since)) (Failed, Aging.Fails) (Pending is None since, Aging.Stays)
    ends i is (Some t) since now w =
        let l = Pending is (Some t) since in
        through (after_time i now w) (leb align_timeout (age now since)) (l, Aging.Rebuilds) (l, Aging.Stays)

    turns : (i : ℕ) (due same_view : Bool) (now : ℕ) (w : Work) (l : Line) → is_pending l ≡ false
        → turn i due same_view now w l ≡ after_time i now w (time_step w.market.log.base now l)
    turns i due same_view now w (Waiting is since) e =
        through (after_time i now w) (leb align_timeout (age now since)) (Failed, Aging.Fails) (Waiting is since, Aging.Stays)
    turns i due same_view now w (Pending is at since) e = absurd (ff≢tt e refl)
    turns i due same_view now w (InLine n a b) e = through (after_time i now w) (ltb n w.market.log.base) (Failed, Aging.Fails) (InLine n a b, Aging.Stays)
    turns i due same_view now w Failed e = refl
