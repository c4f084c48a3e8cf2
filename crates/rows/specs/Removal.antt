-- Rows taken out of a table of two runs by their third word.
use Rattle.std.specs.Prelude.{◌≡◌, List, Bool, true, not, ℕ, ◌+◌, ◌≤◌, ◌<◌, eqb}
use Rattle.rules.specs.Lists.{keep}
use Rattle.words.specs.Words.{tab}
use Rattle.rows.specs.Rows.{Row, row_at, row_in}
use Rattle.rows.specs.Tables.{table_of}
use Rattle.rows.specs.declared.Runs.{Runs}

-- the rows whose third word is not z
abbrev pub without : ℕ → Row → Bool
without z r = not (eqb r.c z)

-- v has from row `to` on the r of n rows of w from row `from` on whose third word is not z
pub record RunKept (from n to z : ℕ) (w v : List ℕ) (r : ℕ) : Type 0 where
  pub fewer : r ≤ n
  pub kept : tab r (row_in to v) ≡ keep (without z) (tab n (row_in from w))
  pub below : (k : ℕ) → k < to → row_at v k ≡ row_at w k
  pub above : (k : ℕ) → from + n ≤ k → row_at v k ≡ row_at w k

-- v is w without the table's rows whose third word is z
pub record Removed (b : ℕ) (u : Runs) (z : ℕ) (w v : List ℕ) (r : Runs) : Type 0 where
  pub table : table_of true b r v ≡ keep (without z) (table_of true b u w)
  pub old : r.old ≤ u.old
  pub new : r.new ≤ u.new
  pub below : (k : ℕ) → k < b → row_at v k ≡ row_at w k
