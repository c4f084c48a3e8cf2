-- 01, Lines: the kinds of a line, what a connection holds, and the market that a store means.
use Rattle.std.specs.Prelude.{Option, List, [], ◌∷◌, map, Bool, true, false, ◌||◌, cond, ℕ, ltb, eqb, length, get_or, set}
use Rattle.rules.specs.declared.Limits.{Limits}
use Rattle.rules.specs.declared.Item.{Item}
use Rattle.rules.specs.Lists.{any, index, sum}
use Rattle.rules.specs.Quantities.{Key}
use Rattle.rules.specs.Log.{Log, empty_log}
use Rattle.rules.specs.Prints.{Prints, no_prints}

-- Waiting: items, since. Pending: items, snapshot time or none, since. In line: next, due for tokens 0 and 1
pub data Line : Type 0 where
  Waiting : List Item → ℕ → Line
  Pending : List Item → Option ℕ → ℕ → Line
  InLine : ℕ → Bool → Bool → Line
  Failed : Line

-- a connection's line, its limit (request 5), and the prints it holds: key and message
pub record Connection : Type 0 where
  pub conn : ℕ
  pub limit : ℕ
  pub line : Line
  pub held : List (Key × ℕ)

-- whoever has no line answers as one whose line is Failed
abbrev pub nobody : Connection
nobody = record { conn = 0; limit = 0; line = Failed; held = [] }

-- the lines rise by connection; a line is named by its place among them, counted from 0
pub record Market : Type 0 where
  pub limits : Limits
  pub log : Log
  pub prints : Prints
  pub lines : List Connection

-- the market that setup makes
abbrev pub fresh : Limits → ℕ → Market
fresh l start = record { limits = l; log = empty_log start; prints = no_prints; lines = [] }

-- held events: key and message
abbrev pub events : List Item → List (Key × ℕ)
events [] = []
events (Item.Snapshot t msg ∷ is) = events is
events (Item.Event k msg ∷ is) = (k, msg) ∷ events is

abbrev pub event_keys : List Item → List Key
event_keys is = map (λ e. e.0) (events is)

-- a snapshot of token t
abbrev pub snapshot_of : ℕ → Item → Bool
snapshot_of t (Item.Snapshot u msg) = eqb u t
snapshot_of t (Item.Event k msg) = false

abbrev pub is_snapshot : Item → Bool
is_snapshot (Item.Snapshot t msg) = true
is_snapshot (Item.Event k msg) = false

abbrev pub message_of : Item → ℕ
message_of (Item.Snapshot t msg) = msg
message_of (Item.Event k msg) = msg

abbrev pub items_of : Line → List Item
items_of (Waiting is since) = is
items_of (Pending is at since) = is
items_of (InLine n a b) = []
items_of Failed = []

abbrev pub is_pending : Line → Bool
is_pending (Waiting is since) = false
is_pending (Pending is at since) = true
is_pending (InLine n a b) = false
is_pending Failed = false

abbrev pub is_in_line : Line → Bool
is_in_line (Waiting is since) = false
is_in_line (Pending is at since) = false
is_in_line (InLine n a b) = true
is_in_line Failed = false

abbrev pub is_failed : Line → Bool
is_failed (Waiting is since) = false
is_failed (Pending is at since) = false
is_failed (InLine n a b) = false
is_failed Failed = true

abbrev pub is_due : Line → Bool
is_due (Waiting is since) = false
is_due (Pending is at since) = false
is_due (InLine n a b) = a || b
is_due Failed = false

-- anyone in line; any line due a snapshot
abbrev pub someone : List Connection → Bool
someone ls = any (λ s. is_in_line s.line) ls

abbrev pub some_due : List Connection → Bool
some_due ls = any (λ s. is_due s.line) ls

-- all held items
abbrev pub item_count : List Connection → ℕ
item_count ls = sum (λ s. length (items_of s.line)) ls

-- the place of c's line; the count of lines if it has none
abbrev pub line_of : ℕ → Market → ℕ
line_of c m = index (λ s. eqb s.conn c) m.lines

abbrev pub conn_at : ℕ → Market → Connection
conn_at i m = get_or m.lines i nobody

abbrev pub line_for : ℕ → Market → Line
line_for c m = (conn_at (line_of c m) m).line

abbrev pub with_log : Log → Market → Market
with_log l m = record { limits = m.limits; log = l; prints = m.prints; lines = m.lines }

abbrev pub with_prints : Prints → Market → Market
with_prints p m = record { limits = m.limits; log = m.log; prints = p; lines = m.lines }

abbrev pub with_lines : List Connection → Market → Market
with_lines ls m = record { limits = m.limits; log = m.log; prints = m.prints; lines = ls }

-- a connection with another line, or with other held prints; its limit stays (request 5)
abbrev pub with_line : Line → Connection → Connection
with_line line s = record { conn = s.conn; limit = s.limit; line = line; held = s.held }

abbrev pub with_held : List (Key × ℕ) → Connection → Connection
with_held hs s = record { conn = s.conn; limit = s.limit; line = s.line; held = hs }

-- the i-th connection's line and held prints replaced; its line alone
abbrev pub set_conn : ℕ → Line → List (Key × ℕ) → Market → Market
set_conn i line hs m = with_lines (set m.lines i (with_line line (with_held hs (conn_at i m)))) m

abbrev pub set_line : ℕ → Line → Market → Market
set_line i line m = set_conn i line (conn_at i m).held m

-- Subscribe: held prints go, the line becomes Waiting, empty, since now, with the limit that is passed (request 5); the connection's
-- delivered counts go (Calls, request 1); nothing else, even if it was in line
abbrev pub waiting : ℕ → ℕ → ℕ → Connection
waiting c limit now = record { conn = c; limit = limit; line = Waiting [] now; held = [] }

unfoldable pub subscribed : ℕ → ℕ → ℕ → List Connection → List Connection
subscribed c limit now [] = waiting c limit now ∷ []
subscribed c limit now (s ∷ ss) =
    cond (ltb c s.conn) (waiting c limit now ∷ s ∷ ss)
    (cond (eqb s.conn c) (waiting c limit now ∷ ss) (s ∷ subscribed c limit now ss))
