-- What a line's turn in a tick leaves.
use Rattle.std.specs.Prelude.{◌≡◌, List, [], ◌∷◌, Bool, true, false, not, ◌&&◌, ◌||◌, cond, ℕ, ◌+◌, ◌-◌, ◌*◌, ◌≤◌, ◌<◌, ltb, length}
use Rattle.rules.specs.declared.Expired.{Expired}
use Rattle.rules.specs.Lists.{nil, is_some}
use Rattle.rules.specs.Lines.{Line, Market, events, items_of, is_pending, conn_at, someone}
use Rattle.rules.specs.Calls.{Outcome, refused, did}
use Rattle.rules.specs.Entering.{Work, aligns}
use Rattle.rules.specs.Tick.{Turn, on, stop, turns, report_aligned, quiet_log}
use Rattle.lines.specs.Line.{snapshot_quiet}
use Rattle.store.specs.Store.{line_count, market_of}
use Rattle.output.specs.Output.{reports_words, over_at}
use Rattle.market_tick.specs.declared.Turned.{Turned}
use Rattle.market_tick.specs.declared.Way.{Way}
use Rattle.moves.specs.Does.{Goes, Ready}
use Rattle.market.specs.Lent.{Lent}

-- the reports rs were written behind the first m
pub record Reported (rs : List Expired) (v : List ℕ) (m : ℕ) (v' : List ℕ) (m' : ℕ) : Type 0 where
  pub words : v' ≡ over_at (3 * m) (reports_words rs) v
  pub count : m' ≡ m + length rs

-- what a turn made of the call under way k, in words; u is the store, v the output, q the reports
pub record Taken (u v q : List ℕ) (t : Turned) (u' v' q' : List ℕ) (t' : Turned) (k k' : Work) (rs : List Expired) (b : Bool) : Type 0 where
  pub goes : Goes u v t.n u' v' t'.n k k'
  pub reported : Reported rs q t.m q' t'.m
  pub stopped : t'.stopped ≡ b

abbrev pub Makes : Turn → (List Expired → Work → Bool → Type 0) → Type 0
Makes (on rs k') P = P rs k' false
Makes (stop rs k') P = P rs k' true

-- f was done, whatever call was under way on the words' market
abbrev pub Turns : (Work → Turn) → List ℕ → List ℕ → List ℕ → Turned → List ℕ → List ℕ → List ℕ → Turned → Type 0
Turns f u v q t u' v' q' t' = (k : Work) → k.market ≡ market_of u → Makes (f k) (λ rs k' b. Taken u v q t u' v' q' t' k k' rs b)

-- room for one more report and for all records
pub record TurnRoom (u v q : List ℕ) (t : Turned) (i : ℕ) : Type 0 where
  pub ready : Ready u v t.n
  pub reports : 3 * t.m + 3 ≤ length q
  pub here : i < line_count u

-- the i-th line is pending
abbrev pub Pends : List ℕ → ℕ → Type 0
Pends u i = is_pending (conn_at i (market_of u)).line ≡ true

-- a report of conn if there are more records than before: n
pub record AlignedReport (conn n : ℕ) (q : List ℕ) (t : Turned) (q' : List ℕ) (t' : Turned) : Type 0 where
  pub reported : Reported (cond (ltb t.n n) (Expired.Aligned conn (n - t.n) ∷ []) []) q t.m q' t'.m
  pub records : t'.n ≡ n
  pub goes_on : t'.stopped ≡ false

-- the i-th line lined up by f, and is reported if anything was put out
abbrev pub aligned_by : ℕ → (Work → Work) → Work → Turn
aligned_by i f w = on (report_aligned i w (f w)) (f w)

-- a line holds no event, or lines up quietly
abbrev pub fits_quietly : Line → Market → Bool
fits_quietly l m = nil (events (items_of l)) || is_some (aligns true l m)

-- the rules' quietly, of a pending line's parts
abbrev pub quietly_of : Line → Bool → ℕ → Market → Bool
quietly_of l same_view now m = quiet_log now m.log && snapshot_quiet now l && fits_quietly l m && same_view

-- how a pending line may line up while another is in line and nothing was due
abbrev pub following_way : Bool → ℕ → Market → Line → Way
following_way same_view now m l = cond (is_some (aligns false l m)) Way.Aligns (cond (quietly_of l same_view now m) Way.Quietly Way.Nowhere)

-- how a line may line up in its turn
abbrev pub way_of : Bool → Bool → ℕ → Market → Line → Way
way_of due same_view now m l = cond (is_pending l && (someone m.lines && not due)) (following_way same_view now m l) Way.Nowhere

-- what all turns made of a call under way that has put nothing out yet
abbrev pub Ended : Outcome → List ℕ → List ℕ → List ℕ → List ℕ → List ℕ → List ℕ → Turned → Work → Type 0
Ended (refused n) u v q u' v' q' t' k = ⊥
Ended (did a rs k') u v q u' v' q' t' k = Goes u v 0 u' v' t'.n k k' × Reported rs q 0 q' t'.m

abbrev pub TurnsEnd : Bool → List ℕ → ℕ → List ℕ → List ℕ → List ℕ → List ℕ → List ℕ → List ℕ → Turned → Type 0
TurnsEnd due answers now u v q u' v' q' t' = (k : Work) → k.market ≡ market_of u → Ended (turns (line_count u) 0 due answers now [] k) u v q u' v' q' t' k

-- lent to a tick
abbrev pub lent_all : List ℕ → List ℕ → List ℕ → Lent
lent_all w v q = record { store = w; out = v; reports = q }
