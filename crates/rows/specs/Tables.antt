-- Tables of two runs: rows in order, and behind them new ones, in order by themselves. What a table says is one list in order.
use Rattle.std.specs.Prelude.{◌≡◌, List, [], ◌∷◌, Bool, true, cond, ℕ, suc, ◌+◌, ◌*◌, ◌≤◌, ◌<◌, length, Result, Ok, Err}
use Rattle.rules.specs.Lists.{insert, Rising}
use Rattle.words.specs.Words.{tab}
use Rattle.rows.specs.Rows.{Row, row_at, row_in, below, Here, Between}
use Rattle.rows.specs.declared.Runs.{Runs}
use Rattle.rows.specs.declared.Added.{Added}

-- r comes before s
abbrev pub before : Bool → Row → Row → Bool
before three r s = below three r s.a s.b s.c

abbrev pub Before : Bool → Row → Row → Type 0
Before three r s = before three r s ≡ true

module _ {A : Type 0} where
  -- the ys that come before x, then x, then f of the other ys
  abbrev pub around : (A → A → Bool) → A → (List A → List A) → List A → List A
  around lt x f [] = x ∷ f []
  around lt x f (y ∷ ys) = cond (lt y x) (y ∷ around lt x f ys) (x ∷ f (y ∷ ys))

  -- two lists in order, merged
  abbrev pub merged : (A → A → Bool) → List A → List A → List A
  merged lt [] ys = ys
  merged lt (x ∷ xs) ys = around lt x (merged lt xs) ys

-- how many rows a table has
abbrev pub size : Runs → ℕ
size u = u.old + u.new

-- the rows of a table from row b on
unfoldable pub table_of : Bool → ℕ → Runs → List ℕ → List Row
table_of three b u w = merged (before three) (tab u.old (row_in b w)) (tab u.new (row_in (b + u.old) w))

-- the most new rows that a table may have
abbrev pub most_new : ℕ
most_new = 512

-- the table lies in the words, and its new rows are few
pub record Lies (b : ℕ) (u : Runs) (w : List ℕ) : Type 0 where
  pub inside : 4 * (b + size u) ≤ length w
  pub short : u.new ≤ most_new

-- and its rows rise
pub record Table (three : Bool) (b : ℕ) (u : Runs) (w : List ℕ) : Type 0 where
  pub lies : Lies b u w
  pub rises : Rising (Before three) (table_of three b u w)

-- no row is that of the words x, y, z; among the new rows it would stand before the i-th
pub record Missing (three : Bool) (b : ℕ) (u : Runs) (x y z : ℕ) (w : List ℕ) (i : ℕ) : Type 0 where
  pub gap : ℕ
  pub old : Between three (row_in b w) u.old x y z gap
  pub new : Between three (row_in (b + u.old) w) u.new x y z i

-- where the row of the words x, y, z stands
abbrev pub Stands : Bool → ℕ → Runs → ℕ → ℕ → ℕ → List ℕ → Result ℕ ℕ → Type 0
Stands three b u x y z w (Ok i) = Here three (row_in b w) (size u) x y z i
Stands three b u x y z w (Err i) = Missing three b u x y z w i

-- v is w with the table's rows all in order
pub record Joined (three : Bool) (b : ℕ) (u : Runs) (w v : List ℕ) : Type 0 where
  pub rows : tab (size u) (row_in b v) ≡ table_of three b u w
  pub below : (k : ℕ) → k < b → row_at v k ≡ row_at w k
  pub above : (k : ℕ) → b + size u ≤ k → row_at v k ≡ row_at w k

-- v is w with the row x in the table besides, at r.at
pub record Grown (three : Bool) (b : ℕ) (u : Runs) (x : Row) (w v : List ℕ) (r : Added) : Type 0 where
  pub table : table_of three b r.runs v ≡ insert (before three) x (table_of three b u w)
  pub more : size r.runs ≡ suc (size u)
  pub short : r.runs.new ≤ most_new
  pub within : r.at < size r.runs
  pub here : row_in b v r.at ≡ x
  pub below : (k : ℕ) → k < b → row_at v k ≡ row_at w k
  pub above : (k : ℕ) → b + size u < k → row_at v k ≡ row_at w k
