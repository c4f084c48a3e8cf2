-- 01, Numbered refusals: each call, its refusals in order, then what it does. Number 1, a store that is not sound, is told by the words.
use Rattle.std.specs.Prelude.{Option, None, Some, List, [], map, Bool, true, false, not, ◌||◌, cond, ℕ, ◌+◌, ◌*◌, ltb, eqb, length}
use Rattle.rules.specs.declared.Limits.{Limits}
use Rattle.rules.specs.Lists.{any}
use Rattle.rules.specs.Quantities.{Key, stamped, area_items, words_needed, in_range}
use Rattle.rules.specs.Lines.{Line, Waiting, Pending, InLine, Failed, Market, message_of, items_of, is_pending, is_in_line, someone, line_of, conn_at, fresh}
use Rattle.rules.specs.Calls.{Outcome, refuse, just, done, subscribe, snapshot, book_event, print, drop_conn, promote, reset}
use Rattle.rules.specs.Tick.{tick}

-- the eight calls of demand 3. room and reports: how many records and reports the lent lists take
pub data Call : Type 0 where
  Subscribe : (conn limit now : ℕ) → Call
  Snapshot : (conn index message now room : ℕ) → Call
  BookEvent : (conn : ℕ) (key : Key) (message now room : ℕ) → Call
  Print : (conn : ℕ) (key : Key) (message now room : ℕ) → Call
  Drop : (conn now room : ℕ) → Call
  Promote : (now room : ℕ) → Call
  Reset : (now : ℕ) → Call
  Tick : (answers : List ℕ) (now room reports : ℕ) → Call

-- 3: output below L×(2H + 8) + 1 records
abbrev pub room_needed : Limits → ℕ
room_needed l = l.L * (2 * l.H + 8) + 1

abbrev pub short : ℕ → Market → Bool
short room m = ltb room (room_needed m.limits)

-- 11: not exactly one view answer, 0 or 1, for each line
abbrev pub bad_answers : List ℕ → Market → Bool
bad_answers answers m = not (eqb (length answers) (length m.lines)) || any (λ a. ltb 1 a) answers

unfoldable pub step : Call → Market → Outcome
step (Subscribe c limit now) m = subscribe c limit now m
step (Snapshot c t msg now room) m =
    refuse (ltb 1 t) 10 (refuse (short room m) 3 (snapshot (line_of c m) t msg now m (conn_at (line_of c m) m).line))
step (BookEvent c k msg now room) m =
    refuse (short room m) 3 (book_event (line_of c m) k msg now m (conn_at (line_of c m) m).line)
step (Print c k msg now room) m = refuse (short room m) 3 (print c k msg now m)
step (Drop c now room) m = refuse (short room m) 3 (drop_conn c now m)
step (Promote now room) m = refuse (short room m) 3 (promote now m)
step (Reset now) m = just done (reset now m)
step (Tick answers now room reports) m =
    refuse (bad_answers answers m) 11 (refuse (short room m || ltb reports m.limits.L) 3 (tick answers now m))

-- setup over so many words, limits first
unfoldable pub setup : Limits → ℕ → ℕ → Outcome
setup l start words = refuse (not (in_range l)) 2 (refuse (ltb words (words_needed l)) 1 (just done (fresh l start)))

-- ---- Queries
abbrev pub in_line : ℕ → Market → Bool
in_line c m = is_in_line (conn_at (line_of c m) m).line

abbrev pub any_in_line : Market → Bool
any_in_line m = someone m.lines

-- in line, or able to start the book: its snapshot is coming or held
abbrev pub can_serve : Line → Bool
can_serve (Waiting is since) = true
can_serve (Pending is at since) = stamped false (λ t. true) at
can_serve (InLine n a b) = true
can_serve Failed = false

abbrev pub servable : Market → Bool
servable m = any (λ s. can_serve s.line) m.lines

-- a pending line's messages in order, none for any other connection
abbrev pub messages : ℕ → Market → List ℕ
messages c m = let s = conn_at (line_of c m) m in cond (is_pending s.line) (map message_of (items_of s.line)) []

-- 3: list under H + 8
unfoldable pub view : ℕ → ℕ → Market → Option (List ℕ)
view c room m = cond (ltb room (area_items m.limits)) None (Some (messages c m))
