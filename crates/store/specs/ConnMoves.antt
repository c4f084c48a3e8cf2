-- What the moves on one line of a store ask.
use Rattle.std.specs.Prelude.{◌≡◌, List, false, ℕ, ◌^◌, ◌≤◌, ◌<◌, length}
use Rattle.rules.specs.declared.Item.{Item}
use Rattle.rules.specs.Quantities.{area_items}
use Rattle.rules.specs.Lines.{conn_at, items_of, is_failed}
use Rattle.place.specs.Items.{kind_of}
use Rattle.lines.specs.Area.{item_words}
use Rattle.store.specs.Store.{limits_of, line_count, line_words_at, market_of, Sized}

-- the words of the i-th line's items
abbrev pub items_at : List ℕ → ℕ → List ℕ
items_at w i = item_words (limits_of w).H (line_words_at w i)

-- the words hold the lines that are counted
pub record Lined (w : List ℕ) : Type 0 where
  pub sized : Sized w
  pub count : line_count w ≤ (limits_of w).L

-- there is an i-th line
pub record LineAt (w : List ℕ) (i : ℕ) : Type 0 where
  pub lined : Lined w
  pub here : i < line_count w

-- its area has room for what it holds
pub record LineFits (w : List ℕ) (i : ℕ) : Type 0 where
  pub at : LineAt w i
  pub items : length (items_of (conn_at i (market_of w)).line) ≤ area_items (limits_of w)
  pub prints : length (conn_at i (market_of w)).held ≤ (limits_of w).H

abbrev pub NotFailed : List ℕ → ℕ → Type 0
NotFailed w i = is_failed (conn_at i (market_of w)).line ≡ false

-- it can hold this item more, or a print more
pub record ItemRoom (w : List ℕ) (i : ℕ) (item : Item) : Type 0 where
  pub fits : LineFits w i
  pub unfailed : NotFailed w i
  pub room : length (items_of (conn_at i (market_of w)).line) < area_items (limits_of w)
  pub kind : kind_of item < 2 ^ 64

pub record PrintRoom (w : List ℕ) (i : ℕ) : Type 0 where
  pub fits : LineFits w i
  pub unfailed : NotFailed w i
  pub room : length (conn_at i (market_of w)).held < (limits_of w).H
