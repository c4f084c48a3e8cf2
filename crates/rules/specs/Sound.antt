-- 01, Quantities: when a market is sound. That a store's words fit their market is the store's part of soundness.
use Rattle.std.specs.Prelude.{◌≡◌, List, true, ℕ, ◌+◌, ◌≤◌, ◌<◌, length}
use Rattle.rules.specs.declared.Limits.{Limits}
use Rattle.rules.specs.declared.Item.{Item}
use Rattle.rules.specs.Lists.{any, sum, Each, Rising}
use Rattle.rules.specs.Quantities.{area_items, in_range, max_count, max_number}
use Rattle.rules.specs.Prints.{KeyRow, CountRow, Prints, key_before, count_before, of_key}
use Rattle.rules.specs.Lines.{Line, Waiting, Pending, InLine, Failed, Connection, Market, items_of, item_count}
use Rattle.rules.specs.Calls.{Outcome, refused, did}
use Rattle.rules.specs.Refusals.{Call, step, room_needed, setup}

-- tokens are known
abbrev pub Known : Item → Type 0
Known (Item.Snapshot t msg) = t ≤ 1
Known (Item.Event k msg) = Unit {0}

-- the log ends at e: items within the area, each in-line next at most the end
abbrev pub LineSound : Limits → ℕ → Line → Type 0
LineSound l e (Waiting is since) = (length is ≤ area_items l) × Each Known is
LineSound l e (Pending is at since) = (length is ≤ area_items l) × Each Known is
LineSound l e (InLine n a b) = n ≤ e
LineSound l e Failed = Unit {0}

-- request 5: a line's limit is 1 to H, whatever its kind
abbrev pub LimitSound : Limits → Connection → Type 0
LimitSound l s = (1 ≤ s.limit) × (s.limit ≤ l.H)

abbrev pub ConnSound : Limits → ℕ → Connection → Type 0
ConnSound l e s = LineSound l e s.line × (length s.held ≤ l.H) × LimitSound l s

-- what a line can put out, and all lines
abbrev pub holds : Connection → ℕ
holds s = length (items_of s.line) + length s.held

abbrev pub holdings : List Connection → ℕ
holdings ls = sum holds ls

abbrev pub Lower : Connection → Connection → Type 0
Lower s t = s.conn < t.conn

-- the lines over a log of n entries from base
pub record LinesSound (l : Limits) (base n : ℕ) (ls : List Connection) : Type 0 where
  pub lines_fit : length ls ≤ l.L
  pub rises : Rising Lower ls
  pub conns : Each (ConnSound l (base + n)) ls
  pub log_fits : n + item_count ls ≤ l.G
  pub numbers_fit : base + n + item_count ls ≤ max_number

-- rows in order, so that no key stands twice, nor a connection under one key
abbrev pub KeyLess : KeyRow → KeyRow → Type 0
KeyLess r s = key_before r s ≡ true

abbrev pub CountLess : CountRow → CountRow → Type 0
CountLess r s = count_before r s ≡ true

-- the tables by themselves
pub record TablesSound (p : Prints) : Type 0 where
  pub keys_rise : Rising KeyLess p.key_rows
  pub pairs_rise : Rising CountLess p.count_rows
  pub applied32 : Each (λ r. r.applied ≤ max_count) p.key_rows
  pub delivered32 : Each (λ r. r.delivered ≤ max_count) p.count_rows
  -- no count row without its key
  pub keyed : Each (λ r. any (of_key r.key) p.key_rows ≡ true) p.count_rows

pub record PrintsSound (l : Limits) (p : Prints) : Type 0 where
  pub keys_fit : length p.key_rows ≤ l.C
  pub pairs_fit : length p.count_rows ≤ l.D
  pub tables : TablesSound p

pub record Sound (m : Market) : Type 0 where
  pub limits_fit : in_range m.limits ≡ true
  pub lines : LinesSound m.limits m.log.base (length m.log.entries) m.lines
  pub prints : PrintsSound m.limits m.prints

-- what a call leaves, if it is not refused: a sound market of the same limits, records within the output's room, reports within L
abbrev pub Leaves : Limits → Outcome → Type 0
Leaves l (refused n) = Unit {0}
Leaves l (did a rs w) = Sound w.market × (w.market.limits ≡ l) × (length w.out ≤ room_needed l) × (length rs ≤ l.L)

-- soundness is kept by every call, and setup makes a sound market
abbrev pub SoundnessKept : Type 0
SoundnessKept = (x : Call) (m : Market) → Sound m → Leaves m.limits (step x m)

abbrev pub SetupSound : Type 0
SetupSound = (l : Limits) (start words : ℕ) → start ≤ max_number → Leaves l (setup l start words)
