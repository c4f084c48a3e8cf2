-- What the steps of a merge and of the test of a table say, for the proofs of the functions that take them.
use Rattle.std.specs.Prelude.{◌≡◌, List, Bool, true, false, ℕ, ◌+◌, ◌-◌, ◌≤◌, ◌<◌, Result}
use Rattle.rows.specs.Rows.{Row, row_at, row_in, Between, Located}
use Rattle.rows.specs.Tables.{before}

-- of i rows from row b on, r come before the last of j new rows; the others are j higher, and it stands below them
pub record Settled (three : Bool) (b i j : ℕ) (new w v : List ℕ) (r : ℕ) : Type 0 where
  pub within : r ≤ i
  pub left : 0 < r → before three (row_in b w (r - 1)) (row_at new (j - 1)) ≡ true
  pub right : r < i → before three (row_in b w r) (row_at new (j - 1)) ≡ false
  pub here : row_at v (b + r + (j - 1)) ≡ row_at new (j - 1)
  pub moved : (k : ℕ) → r ≤ k → k < i → row_at v (b + k + j) ≡ row_at w (b + k)
  pub front : (k : ℕ) → k < b + r + (j - 1) → row_at v k ≡ row_at w k
  pub past : (k : ℕ) → b + i + j ≤ k → row_at v k ≡ row_at w k

-- none of the n rows from row b on is that of s
pub record Lacking (three : Bool) (b n : ℕ) (w : List ℕ) (s : Row) : Type 0 where
  pub at : ℕ
  pub gap : Between three (row_in b w) n s.a s.b s.c at

-- where among the n rows from row b on the row s stands, or would stand
abbrev pub SeekNew : Bool → ℕ → ℕ → List ℕ → Row → Result ℕ ℕ → Type 0
SeekNew three b n w s p = Located three (row_in b w) n s.a s.b s.c p
