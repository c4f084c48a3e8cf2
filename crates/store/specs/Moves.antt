-- What a move on a whole store leaves, and what it may ask of the store's words.
use Rattle.std.specs.Prelude.{Result, ◌≡◌, List, ℕ, ◌+◌, ◌^◌, ◌≤◌, ◌<◌}
use Rattle.rules.specs.Quantities.{Key}
use Rattle.rules.specs.Lines.{Market}
use Rattle.rules.specs.Sound.{TablesSound}
use Rattle.rows.specs.Tables.{size}
use Rattle.prints.specs.declared.Found.{Found}
use Rattle.prints.specs.Area.{KeyStands, FoundIn}
use Rattle.store.specs.Store.{limits_of, head_of, line_count, used_of, table_words, market_of, Sized, KindsKnown}

-- the words w became v, which mean the market m
pub record Moved (w v : List ℕ) (m : Market) : Type 0 where
  pub market : market_of v ≡ m
  pub sized : Sized v
  pub kinds : KindsKnown w → KindsKnown v

-- the header's counts are within the limits
pub record Counts (w : List ℕ) : Type 0 where
  pub entries : (head_of w).count ≤ (limits_of w).G
  pub numbers : (head_of w).base + (head_of w).count < 2 ^ 64
  pub lines : line_count w ≤ (limits_of w).L
  pub keys : size (used_of w).keys ≤ (limits_of w).C
  pub pairs : size (used_of w).counts ≤ (limits_of w).D

-- the print tables can be searched
pub record Tabled (w : List ℕ) : Type 0 where
  pub sized : Sized w
  pub counts : Counts w
  pub tables : TablesSound (market_of w).prints

-- where the row of the key k stands, and those of a print of it by the connection
abbrev pub KeyFound : List ℕ → Key → Result ℕ ℕ → Type 0
KeyFound w k p = KeyStands (table_words w) (used_of w) k p

abbrev pub PrintFound : List ℕ → Key → ℕ → Found → Type 0
PrintFound w k conn f = FoundIn (limits_of w).C (table_words w) (used_of w) k conn f
