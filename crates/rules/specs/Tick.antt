-- 01, Calls: the tick.
use Rattle.std.specs.Prelude.{Option, None, List, [], ◌∷◌, ◌++◌, Bool, true, false, not, ◌&&◌, ◌||◌, cond, ℕ, zero, suc, ◌-◌, leb, ltb, eqb, length, get_or}
use Rattle.rules.specs.declared.Item.{Item}
use Rattle.rules.specs.declared.Expired.{Expired}
use Rattle.rules.specs.Lists.{nil, is_some}
use Rattle.rules.specs.Quantities.{age, stamped, align_timeout, quiet_after}
use Rattle.rules.specs.Log.{Log, end, clear, prune}
use Rattle.rules.specs.Prints.{expire_prints}
use Rattle.rules.specs.Lines.{Line, Waiting, Pending, InLine, Failed, Market, events, someone, some_due, conn_at, with_log, with_prints, set_conn}
use Rattle.rules.specs.Entering.{Work, begin, on_market, enter, take_over, aligns, try_line_up, sweep}
use Rattle.rules.specs.Calls.{Outcome, did, done, each_line}

-- log entries older than 10,000 go, then print keys untouched for more than 30,000
abbrev pub upkeep : ℕ → Market → Market
upkeep now m = with_prints (expire_prints now m.prints) (with_log (prune now m.log) m)

-- no last-applied, or age ≥ 1,000
abbrev pub quiet_log : ℕ → Log → Bool
quiet_log now l = stamped true (λ t. leb quiet_after (age now t)) l.last

-- what a line's turn makes of the call: its reports; the tick goes on, or stops
pub data Turn : Type 0 where
  on : List Expired → Work → Turn
  stop : List Expired → Work → Turn

-- how many records stand in w' and not in w
abbrev pub records_since : Work → Work → ℕ
records_since w w' = length w'.out - length w.out

-- reported Aligned if anything was put out
abbrev pub report_aligned : ℕ → Work → Work → List Expired
report_aligned i w w' =
    cond (ltb (length w.out) (length w'.out)) (Expired.Aligned (conn_at i w.market).conn (records_since w w') ∷ []) []

-- Failed, prints go, reported
abbrev pub fails : ℕ → Work → Turn
fails i w = on (Expired.Failed (conn_at i w.market).conn ∷ []) (on_market (set_conn i Failed []) w)

-- a line in line becomes Pending as in reset
abbrev pub out_of_line : ℕ → Line → Line
out_of_line now (Waiting is since) = Waiting is since
out_of_line now (Pending is at since) = Pending is at since
out_of_line now (InLine n a b) = Pending [] None now
out_of_line now Failed = Failed

abbrev pub all_out : ℕ → Market → Market
all_out now m = each_line (out_of_line now) (with_log (clear m.log) m)

unfoldable pub rebuild_from : ℕ → List Item → ℕ → Work → Turn
rebuild_from i is now w =
    let w' = sweep now (take_over i is now (on_market (all_out now) w)) in
    stop (Expired.Rebuild (conn_at i w.market).conn (records_since w w') ∷ []) w'

-- since-age ≥ 10,000: a rebuild if Pending with a snapshot time, else Failed. A Waiting line has no snapshot time
unfoldable pub time_out : ℕ → List Item → Option ℕ → ℕ → ℕ → Work → Turn
time_out i is at since now w =
    cond (leb align_timeout (age now since)) (stamped (fails i w) (λ t. rebuild_from i is now w) at) (on [] w)

-- line up quietly: without events, next = end
unfoldable pub quiet_line_up : ℕ → ℕ → List Item → Work → Work
quiet_line_up i now is w =
    cond (nil (events is)) (enter i (end w.market.log) (end w.market.log) false false w) (try_line_up true i now w)

-- quiet, its snapshot age ≥ 1,000, it holds no event or aligns quietly, and its view answer is yes
abbrev pub quietly : List Item → Option ℕ → ℕ → Bool → ℕ → Market → Bool
quietly is at since same_view now m =
    quiet_log now m.log && stamped false (λ t. leb quiet_after (age now t)) at && (nil (events is) || is_some (aligns true (Pending is at since) m)) && same_view

-- the turn of the i-th line, which is l; due: some line was due at the tick's start
unfoldable pub turn : ℕ → Bool → Bool → ℕ → Work → Line → Turn
turn i due same_view now w (InLine n a b) = cond (ltb n w.market.log.base) (fails i w) (on [] w)
turn i due same_view now w (Pending is at since) =
    let m = w.market in
    cond (someone m.lines && not due)
    (cond (is_some (aligns false (Pending is at since) m))
    (let w' = sweep now (try_line_up false i now w) in on (report_aligned i w w') w')
    (cond (quietly is at since same_view now m)
    (let w' = quiet_line_up i now is w in on (report_aligned i w w') w')
    (time_out i is at since now w)))
    (time_out i is at since now w)
turn i due same_view now w (Waiting is since) = time_out i is None since now w
turn i due same_view now w Failed = on [] w

-- the turns of n lines from the i-th on
unfoldable pub turns : ℕ → ℕ → Bool → List ℕ → ℕ → List Expired → Work → Outcome
turns zero i due answers now rs w = did done rs w
turns (suc n) i due answers now rs w =
    elim (turn i due (eqb (get_or answers i 0) 1) now w (conn_at i w.market).line) [
      | on r w' ↦ turns n (suc i) due answers now (rs ++ r) w'
      | stop r w' ↦ did done (rs ++ r) w'
    ]

unfoldable pub tick : List ℕ → ℕ → Market → Outcome
tick answers now m = turns (length m.lines) 0 (some_due m.lines) answers now [] (begin (upkeep now m))
