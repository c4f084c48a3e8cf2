-- The two print tables of a market in one lent slice: c rows for keys, then rows for counts. Each is a table of two runs.
use Rattle.std.specs.Prelude.{◌≡◌, true, false, List, map, ℕ, ◌+◌, ◌*◌, ◌≤◌, ◌<◌, length, Result}
use Rattle.rules.specs.Lists.{any}
use Rattle.rules.specs.Quantities.{Key, key}
use Rattle.rules.specs.Prints.{KeyRow, CountRow, Prints, of_key, of_pair}
use Rattle.rows.specs.Rows.{Row, row_in}
use Rattle.rows.specs.Tables.{size, table_of, most_new, Lies, Stands}
use Rattle.prints.specs.declared.Used.{Used}
use Rattle.prints.specs.declared.Found.{Found}

abbrev pub key_row : Row → KeyRow
key_row r = record { key = key r.a r.b; applied = r.c; touched = r.d }

abbrev pub count_row : Row → CountRow
count_row r = record { key = key r.a r.b; conn = r.c; delivered = r.d }

abbrev pub key_at : List ℕ → ℕ → KeyRow
key_at w i = key_row (row_in 0 w i)

abbrev pub count_at : ℕ → List ℕ → ℕ → CountRow
count_at c w i = count_row (row_in c w i)

-- what the words say, with u of their rows in use
unfoldable pub prints_of : ℕ → List ℕ → Used → Prints
prints_of c w u = record { key_rows = map key_row (table_of false 0 u.keys w); count_rows = map count_row (table_of true c u.counts w) }

-- c rows of keys and d of counts are the whole slice
pub record Fit (c d : ℕ) (w : List ℕ) (u : Used) : Type 0 where
  pub whole : length w ≡ 4 * c + 4 * d
  pub keys : size u.keys ≤ c
  pub counts : size u.counts ≤ d
  pub new_keys : u.keys.new ≤ most_new
  pub new_counts : u.counts.new ≤ most_new

-- the rows in use lie in the slice
pub record Fits (c : ℕ) (w : List ℕ) (u : Used) : Type 0 where
  pub keys : Lies 0 u.keys w
  pub counts : Lies c u.counts w
  pub apart : size u.keys ≤ c

-- a row is free for the key k and for its connection, where one is needed
pub record Free (c : ℕ) (w : List ℕ) (u : Used) (k : Key) (conn : ℕ) : Type 0 where
  pub for_key : any (of_key k) (prints_of c w u).key_rows ≡ false → size u.keys < c
  pub for_pair : any (of_pair k conn) (prints_of c w u).count_rows ≡ false → 4 * (c + size u.counts) + 3 < length w

-- where the row of the key k stands, and that of its connection
abbrev pub KeyStands : List ℕ → Used → Key → Result ℕ ℕ → Type 0
KeyStands w u k p = Stands false 0 u.keys k.0 k.1 0 w p

abbrev pub PairStands : ℕ → List ℕ → Used → Key → ℕ → Result ℕ ℕ → Type 0
PairStands c w u k conn p = Stands true c u.counts k.0 k.1 conn w p

pub record FoundIn (c : ℕ) (w : List ℕ) (u : Used) (k : Key) (conn : ℕ) (f : Found) : Type 0 where
  pub key : KeyStands w u k f.key
  pub pair : PairStands c w u k conn f.pair
