-- The parts of a store's soundness that are tested one after the other.
use Rattle.std.specs.Prelude.{◌≡◌, true, List, ℕ, ◌+◌, ◌-◌, ◌≤◌, ◌<◌}
use Rattle.rules.specs.Quantities.{in_range, max_number}
use Rattle.rules.specs.Lines.{conn_at, item_count}
use Rattle.lines.specs.AreaSound.{AreaSound}
use Rattle.rows.specs.Tables.{most_new}
use Rattle.store.specs.Store.{limits_of, head_of, line_count, used_of, line_words_at, market_of, Sized}

-- neither table has more new rows than it may
pub record FewNew (w : List ℕ) : Type 0 where
  pub keys : (used_of w).keys.new ≤ most_new
  pub pairs : (used_of w).counts.new ≤ most_new

-- of this layout, with few new rows, long enough for its limits, and no limit is 0 or too large
pub record Ranged (w : List ℕ) : Type 0 where
  pub sized : Sized w
  pub range : in_range (limits_of w) ≡ true

-- the i-th connection is the first, or above the one before it
abbrev pub Above : List ℕ → ℕ → Type 0
Above w i = 0 < i → (conn_at (i - 1) (market_of w)).conn < (conn_at i (market_of w)).conn

-- and its area is sound over a log that ends at e
pub record SoundAt (w : List ℕ) (e i : ℕ) : Type 0 where
  pub above : Above w i
  pub area : AreaSound (limits_of w).H e (line_words_at w i)

abbrev pub EachSound : List ℕ → Type 0
EachSound w = (i : ℕ) → i < line_count w → SoundAt w ((head_of w).base + (head_of w).count) i

-- the log with all held items behind it
pub record ItemsFit (w : List ℕ) : Type 0 where
  pub events : (head_of w).count + item_count (market_of w).lines ≤ (limits_of w).G
  pub numbers : (head_of w).base + (head_of w).count + item_count (market_of w).lines ≤ max_number
