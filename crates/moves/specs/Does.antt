-- What a move on a store and its output does, and what it asks of them. w is the store's words, v the output's, n how many records it has.
use Rattle.std.specs.Prelude.{◌≡◌, List, ◌++◌, ℕ, ◌+◌, ◌*◌, ◌^◌, ◌≤◌, ◌<◌, length}
use Rattle.rules.specs.declared.Applied.{Applied}
use Rattle.rules.specs.Lines.{conn_at, items_of}
use Rattle.rules.specs.Entering.{Work}
use Rattle.rules.specs.Sound.{holdings}
use Rattle.store.specs.Store.{limits_of, head_of, market_of, Sized, Sound}
use Rattle.store.specs.Moves.{Moved, Tabled}
use Rattle.store.specs.ConnMoves.{LineFits, NotFailed}
use Rattle.output.specs.Output.{records_words, over_at}

-- a call under way k became k': the records that it put out more are behind the first n, and the words mean its market
pub record Goes (w v : List ℕ) (n : ℕ) (w' v' : List ℕ) (n' : ℕ) (k k' : Work) : Type 0 where
  pub more : List Applied
  pub out : k'.out ≡ k.out ++ more
  pub moved : Moved w w' k'.market
  pub words : v' ≡ over_at (7 * n) (records_words more) v
  pub count : n' ≡ n + length more

-- f was done, whatever call was under way on the words' market
abbrev pub Does : (Work → Work) → List ℕ → List ℕ → ℕ → List ℕ → List ℕ → ℕ → Type 0
Does f w v n w' v' n' = (k : Work) → k.market ≡ market_of w → Goes w v n w' v' n' k (f k)

-- a sound store, and room in the output for all that its lines hold
pub record Ready (w v : List ℕ) (n : ℕ) : Type 0 where
  pub sound : Sound w
  pub room : 7 * (n + holdings (market_of w).lines) ≤ length v

-- room for one entry and one record
pub record PushRoom (w v : List ℕ) (n : ℕ) : Type 0 where
  pub sized : Sized w
  pub entries : (head_of w).count < (limits_of w).G
  pub numbers : (head_of w).base + (head_of w).count < 2 ^ 64
  pub room : 7 * n + 7 ≤ length v

-- room for entries and records of all that the i-th line holds
pub record ItemsRoom (w v : List ℕ) (n i : ℕ) : Type 0 where
  pub fits : LineFits w i
  pub entries : (head_of w).count + length (items_of (conn_at i (market_of w)).line) ≤ (limits_of w).G
  pub numbers : (head_of w).base + (head_of w).count + length (items_of (conn_at i (market_of w)).line) < 2 ^ 64
  pub room : 7 * (n + length (items_of (conn_at i (market_of w)).line)) ≤ length v

-- the print tables can be searched, and there is room for a record of each print that the i-th line holds
pub record PrintsRoom (w v : List ℕ) (n i : ℕ) : Type 0 where
  pub tabled : Tabled w
  pub fits : LineFits w i
  pub room : 7 * (n + length (conn_at i (market_of w)).held) ≤ length v

-- the i-th line may enter line
pub record EnterRoom (w v : List ℕ) (n i : ℕ) : Type 0 where
  pub prints : PrintsRoom w v n i
  pub unfailed : NotFailed w i
