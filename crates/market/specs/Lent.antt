-- What is lent to a call, and what an outcome of the rules leaves there.
use Rattle.std.specs.Prelude.{◌≡◌, List, [], ℕ, ◌*◌, ◌≤◌, ◌<◌, length}
use Rattle.rules.specs.declared.Expired.{Expired}
use Rattle.rules.specs.Lines.{Line, conn_at}
use Rattle.rules.specs.Entering.{Work}
use Rattle.rules.specs.Calls.{Outcome, refused, did}
use Rattle.rules.specs.Refusals.{room_needed}
use Rattle.rules.specs.Answers.{Said, said_by}
use Rattle.store.specs.Store.{limits_of, line_count, market_of, Sound}
use Rattle.output.specs.Output.{records_words, reports_words, over}

-- the store, the output list, the list of reports (empty for a call that takes none)
pub record Lent : Type 0 where
  pub store : List ℕ
  pub out : List ℕ
  pub reports : List ℕ

-- lent to a call that takes no reports, or no list at all
abbrev pub lent : List ℕ → List ℕ → Lent
lent w v = record { store = w; out = v; reports = [] }

abbrev pub alone : List ℕ → Lent
alone w = lent w []

-- a call that is not refused leaves what the rules make of it
pub record Left (k : Work) (rs : List Expired) (before after : Lent) : Type 0 where
  pub market : market_of after.store ≡ k.market
  pub sound : Sound after.store
  pub size : length after.store ≡ length before.store
  pub out : after.out ≡ over (records_words k.out) before.out
  pub reports : after.reports ≡ over (reports_words rs) before.reports

-- one that is refused leaves what it was lent
abbrev pub Leaves : Outcome → Lent → Lent → Type 0
Leaves (refused n) before after = after ≡ before
Leaves (did a rs k) before after = Left k rs before after

-- answer and words are the outcome's
pub record Answers (o : Outcome) (before : Lent) (answer : Said) (after : Lent) : Type 0 where
  pub said : answer ≡ said_by o
  pub left : Leaves o before after

-- a sound store, and an output list that has room for what any call puts out
pub record Roomy (w v : List ℕ) : Type 0 where
  pub sound : Sound w
  pub room : 7 * room_needed (limits_of w) ≤ length v

-- the i-th line of such a store is l
pub record At (w v : List ℕ) (i : ℕ) (l : Line) : Type 0 where
  pub roomy : Roomy w v
  pub here : i < line_count w
  pub line : (conn_at i (market_of w)).line ≡ l
