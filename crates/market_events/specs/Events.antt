-- What the i-th line makes of a book event.
use Rattle.std.specs.Prelude.{◌≡◌, List, cond, ℕ, ◌<◌}
use Rattle.rules.specs.Quantities.{Key}
use Rattle.rules.specs.Log.{keys}
use Rattle.rules.specs.Lines as Rules
use Rattle.rules.specs.Lines.{Market, conn_at, is_in_line}
use Rattle.rules.specs.Calls.{Outcome, duplicate, held, released, book_event}
use Rattle.rules.specs.Answers.{Said}
use Rattle.lines.specs.declared.Line.{Line}
use Rattle.lines.specs.Line.{Stands, event_step}
use Rattle.store.specs.Store.{line_count, market_of}
use Rattle.market_snapshots.specs.Snapshots.{tried}

abbrev pub step_at : ℕ → Key → ℕ → Market → Rules.Line × Said
step_at i k msg m = event_step (conn_at i m).limit m.log.base (keys m.log) k msg (conn_at i m).line

-- the book event to it
abbrev pub event_at : ℕ → Key → ℕ → ℕ → Market → Outcome
event_at i k msg t m = book_event i k msg t m (conn_at i m).line

-- the i-th line answers a, and `line` stands for what it becomes
pub record Becomes (w : List ℕ) (i : ℕ) (k : Key) (msg : ℕ) (line : Line) (a : Said) : Type 0 where
  pub here : i < line_count w
  pub stands : Stands line (step_at i k msg (market_of w)).0
  pub answer : (step_at i k msg (market_of w)).1 ≡ a

-- the i-th line, pending, tries to line up
abbrev pub line_up_answers : ℕ → ℕ → Market → Outcome
line_up_answers i t m =
    let k = tried i t m in
    released (cond (is_in_line (conn_at i k.market).line) duplicate held) t k
