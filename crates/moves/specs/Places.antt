-- A place at which a line of a store may line up.
use Rattle.std.specs.Prelude.{◌≡◌, List, true, ℕ, ◌+◌, ◌≤◌, ◌<◌, length}
use Rattle.rules.specs.Lines.{conn_at, items_of, events, is_pending}
use Rattle.store.specs.Store.{head_of, line_count, market_of}

-- the i-th line is pending, has a j-th held event, and p is a number of the log
pub record AtPlace (w : List ℕ) (i j p : ℕ) : Type 0 where
  pub here : i < line_count w
  pub pending : is_pending (conn_at i (market_of w)).line ≡ true
  pub event : j ≤ length (events (items_of (conn_at i (market_of w)).line))
  pub from : (head_of w).base ≤ p
  pub upto : p ≤ (head_of w).base + (head_of w).count
