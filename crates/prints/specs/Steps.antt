-- What the steps of counting, of the soundness test and of the expiry say, for the proofs of the calls that take them.
use Rattle.std.specs.Prelude.{◌≡◌, Bool, true, false, List, map, ℕ, ◌+◌, ◌-◌, ◌*◌, ◌≤◌, ◌<◌, get_or, leb, Result, Ok, Err, Option, Some, None}
use Rattle.rules.specs.Lists.{any, keep, Rising}
use Rattle.rules.specs.Quantities.{Key, key, age, other_keep, max_count}
use Rattle.rules.specs.Prints.{KeyRow, Prints, of_key, touch, deliver}
use Rattle.words.specs.Words.{tab}
use Rattle.rows.specs.declared.Runs.{Runs}
use Rattle.rows.specs.declared.Added.{Added}
use Rattle.rows.specs.Rows.{row_at, row_in, below, alike, Rises, Here}
use Rattle.rows.specs.Tables.{Before, size, table_of, Lies}
use Rattle.prints.specs.declared.Used.{Used}
use Rattle.prints.specs.Area.{key_row, count_row, key_at, count_at}

abbrev pub is_gap : Result ℕ ℕ → Bool
is_gap (Ok i) = false
is_gap (Err i) = true

-- v is w with the key k touched at t: its row stands at r.at
pub record KeyTouched (c : ℕ) (u : Runs) (k : Key) (t : ℕ) (w v : List ℕ) (r : Added) : Type 0 where
  pub table : map key_row (table_of false 0 r.runs v) ≡ touch k t (map key_row (table_of false 0 u w))
  pub lies : Lies 0 r.runs v
  pub fits : size r.runs ≤ c
  pub here : Here false (row_in 0 v) (size r.runs) k.0 k.1 0 r.at
  pub others : (j : ℕ) → c ≤ j → row_at v j ≡ row_at w j

-- v is w with a copy of k by the connection counted
pub record PairCounted (c : ℕ) (u : Runs) (k : Key) (conn : ℕ) (w v : List ℕ) (r : Runs) : Type 0 where
  pub table : map count_row (table_of true c r v) ≡ deliver k conn (map count_row (table_of true c u w))
  pub lies : Lies c r v
  pub others : (j : ℕ) → j < c → row_at v j ≡ row_at w j

-- the tables of n keys and m count rows that all stand in order
abbrev pub in_order : ℕ → ℕ → ℕ → List ℕ → Prints
in_order c n m w = record { key_rows = tab n (key_at w); count_rows = tab m (count_at c w) }

-- the row j has its key among the rows of keys
abbrev pub HasKey : Runs → List ℕ → ℕ → Type 0
HasKey u w j = any (of_key (key (row_at w j).a (row_at w j).b)) (map key_row (table_of false 0 u w)) ≡ true

-- key i of a run from row b on is in order, and its count fits
pub record KeySound (b : ℕ) (w : List ℕ) (i : ℕ) : Type 0 where
  pub rises : Rises false b w i
  pub small : get_or w (4 * (b + i) + 2) 0 ≤ max_count

pub record KeysSound (u : Runs) (w : List ℕ) : Type 0 where
  pub rises : Rising (Before false) (table_of false 0 u w)
  pub applied : (i : ℕ) → i < size u → get_or w (4 * (0 + i) + 2) 0 ≤ max_count

-- row j of a run from row b on is of the same key as the row before it
pub record Again (b : ℕ) (w : List ℕ) (j : ℕ) : Type 0 where
  pub behind : 0 < j
  pub same : alike false (row_in b w (j - 1)) (row_in b w j).a (row_in b w j).b 0 ≡ true

-- of n keys from row a on i are passed: what is above the key of the row before row j of a run from row b on is above them
pub record Past (a n : ℕ) (w : List ℕ) (i b j : ℕ) : Type 0 where
  pub within : i ≤ n
  pub behind : 0 < i → 0 < j
  pub left : 0 < i → (x y : ℕ) → below false (row_in b w (j - 1)) x y 0 ≡ true → below false (row_in a w (i - 1)) x y 0 ≡ true

-- so many are passed of both runs
pub record Reached (u : Runs) (b : ℕ) (w : List ℕ) (j : ℕ) (p : Runs) : Type 0 where
  pub old : Past 0 u.old w p.old b j
  pub new : Past u.old u.new w p.new b j

-- whether row j of a run of count rows has its key
abbrev pub Owned : Runs → ℕ → List ℕ → ℕ → Option Runs → Type 0
Owned u b w j (Some p) = HasKey u w (b + j) × Reached u b w (j + 1) p
Owned u b w j None = HasKey u w (b + j) → ⊥

-- it is in order, its count fits, and it has its key
pub record CountSound (u : Runs) (b : ℕ) (w : List ℕ) (j : ℕ) : Type 0 where
  pub rises : Rises true b w j
  pub small : get_or w (4 * (b + j) + 3) 0 ≤ max_count
  pub keyed : HasKey u w (b + j)

abbrev pub CountTested : Runs → ℕ → List ℕ → ℕ → Option Runs → Type 0
CountTested u b w j (Some p) = CountSound u b w j × Reached u b w (j + 1) p
CountTested u b w j None = CountSound u b w j → ⊥

pub record CountsSound (c : ℕ) (u : Used) (w : List ℕ) : Type 0 where
  pub rises : Rising (Before true) (table_of true c u.counts w)
  pub delivered : (j : ℕ) → j < size u.counts → get_or w (4 * (c + j) + 3) 0 ≤ max_count
  pub keyed : (j : ℕ) → j < size u.counts → HasKey u.keys w (c + j)

-- the key rows that stay at t
abbrev pub staying : ℕ → List KeyRow → List KeyRow
staying t rs = keep (λ r. leb (age t r.touched) other_keep) rs

-- of n keys and m count rows of w, v has at the front the r count rows of the keys that stay at t
pub record CountsKept (c n m t : ℕ) (w v : List ℕ) (r : ℕ) : Type 0 where
  pub fewer : r ≤ m
  pub kept : tab r (count_at c v) ≡ keep (λ s. any (of_key s.key) (staying t (tab n (key_at w)))) (tab m (count_at c w))
  pub others : (k : ℕ) → k < c → row_at v k ≡ row_at w k

-- v is w with the first r key rows those of n that stay at t
pub record KeysKept (n t : ℕ) (w v : List ℕ) (r : ℕ) : Type 0 where
  pub fewer : r ≤ n
  pub kept : tab r (key_at v) ≡ staying t (tab n (key_at w))
  pub others : (k : ℕ) → n ≤ k → row_at v k ≡ row_at w k
