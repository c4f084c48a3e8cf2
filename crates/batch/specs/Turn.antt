-- One call of a list, and a list under way.
use Rattle.std.specs.Prelude.{Option, None, Some, ◌≡◌, List, true, false, ℕ, ◌+◌, ◌*◌, ◌≤◌, ◌<◌, length, get_or}
use Rattle.rules.specs.Lines.{Market}
use Rattle.rules.specs.Calls.{Outcome, refused}
use Rattle.rules.specs.Refusals.{Call, step}
use Rattle.rules.specs.Answers.{Said, said_by}
use Rattle.store.specs.Store.{market_of, Sound}
use Rattle.market.specs.Lent as Market
use Rattle.market.specs.Lent.{Lent, Answers}
use Rattle.steps.specs.Steps.{records, report_room}
use Rattle.codes.specs.declared.Told.{Told}
use Rattle.codes.specs.Told.{Tells}
use Rattle.batch.specs.declared.Counts.{Counts}
use Rattle.batch.specs.declared.Stop.{Stop}
use Rattle.batch.specs.Batch.{call_in, Ran, Room, next, why, Lists, room_in, BatchSaid, ended, Leaves}

-- words that are no call end the list as a call without room does
abbrev pub outcome : Option Call → Market → Outcome
outcome None m = refused 3
outcome (Some x) m = step x m

-- what the call of the words w comes to on the lent lists
abbrev pub outcome_in : List ℕ → Lent → Outcome
outcome_in w l = outcome (call_in w (market_of l.store) (records l.out) (report_room l.reports)) (market_of l.store)

abbrev pub Calls : List ℕ → Lent → Said → Lent → Type 0
Calls w before answer after = Answers (outcome_in w before) before answer after

-- the same, with the answer as three numbers
pub record Does (w : List ℕ) (before : Lent) (t : Told) (after : Lent) : Type 0 where
  pub left : Market.Leaves (outcome_in w before) before after
  pub tells : Tells (said_by (outcome_in w before)) t.code t.count t.reports

-- s is why a call of the number n is not done, where there is room for its answer
abbrev pub Reasons : ℕ → Stop → Type 0
Reasons n s = (r : Room) (w : List ℕ) (k : Ran) → get_or w 0 0 ≡ n → length k.answers < r.answers → why r w k ≡ s

-- ---- a list under way

abbrev pub did_so : Counts → Stop → BatchSaid
did_so c s = ended c.calls c.records c.reports s

-- what was done stands in the lists, and is counted, whatever ends the list
pub record Stands (k : Ran) (before : Lists) (c : Counts) (now : Lists) : Type 0 where
  pub leaves : (s : Stop) → Leaves k s before (did_so c s) now
  pub out_size : length now.out ≡ length before.out
  pub reports_size : length now.reports ≡ length before.reports
  pub answers_size : length now.answers ≡ length before.answers
  pub out_fits : 7 * c.records ≤ length before.out
  pub reports_fit : 3 * c.reports ≤ length before.reports

-- before a call that was not done, or after one call more
abbrev pub Went : Option Ran → Ran → Lists → Counts → Option Counts → Lists → Type 0
Went None k before c None now = Stands k before c now
Went None k before c (Some c') now = ⊥
Went (Some k') k before c None now = ⊥
Went (Some k') k before c (Some c') now = (c'.calls ≡ c.calls + 1) × Stands k' before c' now

-- a call that was done is counted
abbrev pub Counted : Counts → Option Counts → Type 0
Counted c None = Unit {0}
Counted c (Some c') = c'.calls ≡ c.calls + 1

-- the call w was tried, whatever list was under way
pub record Turns (w : List ℕ) (now : Lists) (c : Counts) (now' : Lists) (c' : Option Counts) : Type 0 where
  pub went : (k : Ran) (before : Lists) → Stands k before c now → Went (next (room_in before) w k) k before c c' now'
  pub counted : Counted c c'

-- eight words on a sound store, and room for an answer
pub record TurnRoom (w : List ℕ) (now : Lists) (c : Counts) : Type 0 where
  pub sound : Sound now.store
  pub call : length w ≡ 8
  pub out : 7 * c.records ≤ length now.out
  pub reports : 3 * c.reports ≤ length now.reports
  pub answers : 3 * c.calls + 3 ≤ length now.answers
