-- The reading of a store: the market that its words mean, and when it is sound. docs/LAYOUT.md has the words in a table.
use Rattle.std.specs.Prelude.{◌≡◌, List, [], ◌∷◌, ℕ, ◌+◌, ◌*◌, ◌≤◌, ◌<◌, length, get_or, set}
use Rattle.rules.specs.declared.Limits.{Limits}
use Rattle.rules.specs.Quantities.{words_needed}
use Rattle.rules.specs.Lines.{Connection, Market}
use Rattle.rules.specs.Sound as Rules
use Rattle.words.specs.Words.{part, back, tab}
use Rattle.event_log.specs.declared.Head.{Head}
use Rattle.event_log.specs.Log.{log_of}
use Rattle.rows.specs.Tables.{most_new}
use Rattle.prints.specs.declared.Used.{Used}
use Rattle.prints.specs.Area.{prints_of}
use Rattle.lines.specs.Area.{stamp_in, stamp_flag, stamp_time, conn_of}

-- ---- the header

abbrev pub limits_of : List ℕ → Limits
limits_of w = record { L = get_or w 0 0; H = get_or w 1 0; G = get_or w 2 0; C = get_or w 3 0; D = get_or w 4 0 }

-- four words, base, count, flag and time of last-applied; and the front's place
abbrev pub head_in : List ℕ → ℕ → Head
head_in v front = record { base = get_or v 0 0; count = get_or v 1 0; last = stamp_in (get_or v 2 0) (get_or v 3 0); front = front }

abbrev pub head_words : Head → List ℕ
head_words h = h.base ∷ h.count ∷ stamp_flag h.last ∷ stamp_time h.last ∷ []

abbrev pub head_of : List ℕ → Head
head_of w = head_in (part 5 9 w) (get_or w 15 0)

-- the words with the head h
abbrev pub put_head : Head → List ℕ → List ℕ
put_head h w = set (back 5 9 (head_words h) w) 15 h.front

abbrev pub line_count : List ℕ → ℕ
line_count w = get_or w 9 0

abbrev pub used_of : List ℕ → Used
used_of w = record { keys = record { old = get_or w 10 0; new = get_or w 13 0 }; counts = record { old = get_or w 11 0; new = get_or w 14 0 } }

-- the words with u rows in use
abbrev pub put_used : Used → List ℕ → List ℕ
put_used u w = set (set (set (set w 10 u.keys.old) 11 u.counts.old) 13 u.keys.new) 14 u.counts.new

-- the layout of a store's words, which every change of it raises; setup writes it
abbrev pub layout : ℕ
layout = 4

abbrev pub layout_of : List ℕ → ℕ
layout_of w = get_or w 12 0

-- ---- the areas behind it: log, print tables, lines

-- where the print tables start, where the lines do, and how wide a line's area is
abbrev pub tables_at : Limits → ℕ
tables_at l = 64 + 3 * l.G

abbrev pub lines_at : Limits → ℕ
lines_at l = tables_at l + (4 * l.C + 4 * l.D)

abbrev pub line_width : Limits → ℕ
line_width l = 7 * l.H + 64

-- where the i-th line's area starts
abbrev pub line_start : Limits → ℕ → ℕ
line_start l i = lines_at l + i * line_width l

abbrev pub log_words : List ℕ → List ℕ
log_words w = part 64 (tables_at (limits_of w)) w

-- of which the first are the keys'
abbrev pub key_words : List ℕ → List ℕ
key_words w = part 64 (64 + 2 * (limits_of w).G) w

abbrev pub table_words : List ℕ → List ℕ
table_words w = part (tables_at (limits_of w)) (lines_at (limits_of w)) w

abbrev pub line_words_at : List ℕ → ℕ → List ℕ
line_words_at w i = part (line_start (limits_of w) i) (line_start (limits_of w) i + line_width (limits_of w)) w

abbrev pub conn_in : List ℕ → ℕ → Connection
conn_in w i = conn_of (limits_of w).H (line_words_at w i)

-- the market that the words mean
unfoldable pub market_of : List ℕ → Market
market_of w =
    record {
      limits = limits_of w;
      log = log_of (limits_of w).G (log_words w) (head_of w);
      prints = prints_of (limits_of w).C (table_words w) (used_of w);
      lines = tab (line_count w) (conn_in w);
    }

-- ---- sound

-- of this layout, with the log's front below G (request 3), with few new rows in its tables, and long enough for its limits,
-- which are in range
pub record Sized (w : List ℕ) : Type 0 where
  pub header : 64 ≤ length w
  pub version : layout_of w ≡ layout
  pub long : words_needed (limits_of w) ≤ length w
  pub lines : (limits_of w).L ≤ 16
  pub held : (limits_of w).H ≤ 5000
  pub events : (limits_of w).G ≤ 1048576
  pub keys : (limits_of w).C ≤ 65536
  pub pairs : (limits_of w).D ≤ 65536
  pub front : (head_of w).front < (limits_of w).G
  pub new_keys : (used_of w).keys.new ≤ most_new
  pub new_pairs : (used_of w).counts.new ≤ most_new

-- each line's kind is known
abbrev pub KindsKnown : List ℕ → Type 0
KindsKnown w = (i : ℕ) → i < line_count w → get_or (line_words_at w i) 1 0 ≤ 3

-- the store of 01: the words fit, and mean a sound market
pub record Sound (w : List ℕ) : Type 0 where
  pub sized : Sized w
  pub kinds : KindsKnown w
  pub market : Rules.Sound (market_of w)
