-- The rules' calls on a line are the steps of Line, with what the market adds to them.
use Rattle.std.specs.Prelude.{Option, ◌≡◌, List, [], Bool, false, cond, ℕ}
use Rattle.rules.specs.declared.Item.{Item}
use Rattle.rules.specs.Quantities.{Key, snapshot_out}
use Rattle.rules.specs.Log.{keys, end, stamp}
use Rattle.rules.specs.Lines.{Line, Pending, Market, items_of, is_pending, is_in_line, someone, conn_at, with_log, set_line}
use Rattle.rules.specs.Entering.{Work, begin, on_market, put_out, push_out, take_over, try_line_up, sweep}
use Rattle.rules.specs.Calls.{done, apply, duplicate, held, ignored, diverged, failed, kept, gone, rebuild, Outcome, refused, did, refuse, just, released, full_log, full_numbers, snapshot, book_event}
use Rattle.rules.specs.Tick.{Turn, on, fails, rebuild_from, time_out, turn}
use Rattle.rules.specs.Answers.{Said, number, word}
use Rattle.rules.specs.Sound.{LineSound}
use Rattle.lines.specs.declared.Aging.{Aging}
use Rattle.lines.specs.declared.Aging.TheVariants as Aging
use Rattle.lines.specs.Line.{complete, holds_both, snapshot_step, event_step, time_step}

-- refused where log and items are at G, or where no number is left
abbrev pub unless_full : Market → Outcome → Outcome
unless_full m o = refuse (full_log m) 5 (refuse (full_numbers m) 9 o)

-- the i-th line holds one event more and is l now: a pending one tries to line up
abbrev pub held_event : ℕ → ℕ → Market → Line → Outcome
held_event i now m l =
    cond (is_pending l)
    (let w = try_line_up false i now (begin (set_line i l m)) in released (cond (is_in_line (conn_at i w.market).line) duplicate held) now w)
    (just held (set_line i l m))

-- what the market makes of a book event's step on its i-th line: it keeps the line that the step hands back; on Apply the event is
-- pushed and put out, unless refused, and others are swept
abbrev pub after_event : ℕ → Key → ℕ → ℕ → Market → Line × Said → Outcome
after_event i k msg now m (l, number n) = refuse (full_log m) 5 (refused n)
after_event i k msg now m (l, word apply x y) =
    unless_full m (did apply [] (sweep now (on_market (set_line i l) (push_out (conn_at i m).conn now k msg (begin m)))))
after_event i k msg now m (l, word duplicate x y) = just duplicate (set_line i l m)
after_event i k msg now m (l, word held x y) = unless_full m (held_event i now m l)
after_event i k msg now m (l, word failed x y) = just failed (set_line i l m)
after_event i k msg now m (l, word diverged x y) = just diverged m
after_event i k msg now m (l, word ignored x y) = just ignored m
after_event i k msg now m (l, word done x y) = just done m
after_event i k msg now m (l, word kept x y) = just kept m
after_event i k msg now m (l, word gone x y) = just gone m
after_event i k msg now m (l, word rebuild x y) = just rebuild m

abbrev pub BookEventSteps : Type 0
BookEventSteps = (i : ℕ) (k : Key) (msg now : ℕ) (m : Market) (l : Line) → LineSound m.limits (end m.log) l
    → book_event i k msg now m l ≡ after_event i k msg now m (event_step (conn_at i m).limit m.log.base (keys m.log) k msg l)

-- the i-th line holds one snapshot more and is l now: with nobody in line it takes over; with both tokens it is pending and tries to line up
abbrev pub held_snapshot : ℕ → ℕ → Market → Line → Outcome
held_snapshot i now m l =
    cond (someone m.lines)
    (cond (holds_both (items_of l)) (released held now (try_line_up false i now (begin (set_line i (complete now l) m)))) (just held (set_line i l m)))
    (did apply [] (take_over i (items_of l) now (begin m)))

-- what the market makes of a snapshot's step: put out on Apply, and others are swept
abbrev pub after_snapshot : ℕ → ℕ → ℕ → Market → Line × Said → Outcome
after_snapshot i msg now m (l, number n) = refused n
after_snapshot i msg now m (l, word apply x y) =
    did apply [] (sweep now (put_out (snapshot_out (conn_at i m).conn msg) (begin (set_line i l (with_log (stamp now m.log) m)))))
after_snapshot i msg now m (l, word held x y) = unless_full m (held_snapshot i now m l)
after_snapshot i msg now m (l, word ignored x y) = just ignored m
after_snapshot i msg now m (l, word done x y) = just done m
after_snapshot i msg now m (l, word duplicate x y) = just duplicate m
after_snapshot i msg now m (l, word diverged x y) = just diverged m
after_snapshot i msg now m (l, word failed x y) = just failed m
after_snapshot i msg now m (l, word kept x y) = just kept m
after_snapshot i msg now m (l, word gone x y) = just gone m
after_snapshot i msg now m (l, word rebuild x y) = just rebuild m

abbrev pub SnapshotSteps : Type 0
SnapshotSteps = (i t msg now : ℕ) (m : Market) (l : Line)
    → snapshot i t msg now m l ≡ after_snapshot i msg now m (snapshot_step m.limits.H t msg l)

-- what a tick makes of time's step on the i-th line
abbrev pub after_time : ℕ → ℕ → Work → Line × Aging → Turn
after_time i now w (l, Aging.Stays) = on [] w
after_time i now w (l, Aging.Fails) = fails i w
after_time i now w (l, Aging.Rebuilds) = rebuild_from i (items_of l) now w

abbrev pub aged : ℕ → ℕ → Work → Line → Turn
aged i now w l = after_time i now w (time_step w.market.log.base now l)

-- a line that is not pending has no turn but this; a pending one comes to it last
pub record TimeSteps : Type 0 where
  pub turns : (i : ℕ) (due same_view : Bool) (now : ℕ) (w : Work) (l : Line) → is_pending l ≡ false → turn i due same_view now w l ≡ aged i now w l
  pub ends : (i : ℕ) (is : List Item) (at : Option ℕ) (since now : ℕ) (w : Work) → time_out i is at since now w ≡ aged i now w (Pending is at since)
