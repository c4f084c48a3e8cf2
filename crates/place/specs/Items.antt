-- The reading of a line's held items: four words each, kind, key, key, message.
use Rattle.std.specs.Prelude.{Option, None, Some, ◌≡◌, List, Bool, not, ℕ, zero, suc, ◌+◌, ◌*◌, ◌^◌, ◌≤◌, ◌<◌, length, get_or}
use Rattle.rules.specs.declared.Item.{Item}
use Rattle.rules.specs.Quantities.{key}
use Rattle.rules.specs.Lines.{is_snapshot}
use Rattle.words.specs.Words.{tab}
use Rattle.event_log.specs.Log.{entry_place, Ring}
use Rattle.event_log.specs.declared.Head.{Head}
use Rattle.place.specs.declared.Place.{Place}

-- kind 0 is an event, t + 1 a snapshot of token t, whose key words mean nothing
abbrev pub item_of : ℕ → ℕ → ℕ → ℕ → Item
item_of zero a b msg = Item.Event (key a b) msg
item_of (suc t) a b msg = Item.Snapshot t msg

-- the i-th item of the words
abbrev pub item_in : List ℕ → ℕ → Item
item_in w i = item_of (get_or w (4 * i) 0) (get_or w (4 * i + 1) 0) (get_or w (4 * i + 2) 0) (get_or w (4 * i + 3) 0)

-- the first n of them
unfoldable pub items_in : ℕ → List ℕ → List Item
items_in n w = tab n (item_in w)

-- an item's kind word
abbrev pub kind_of : Item → ℕ
kind_of (Item.Snapshot t msg) = t + 1
kind_of (Item.Event k msg) = 0

abbrev pub is_event : Item → Bool
is_event i = not (is_snapshot i)

-- the words have room for an i-th item, and its kind fits a word
pub record Room (w : List ℕ) (i : ℕ) (item : Item) : Type 0 where
  pub inside : 4 * i + 4 ≤ length w
  pub kind : kind_of item < 2 ^ 64

-- (j, i) among the log's entries is the number base + i
abbrev pub place_of : ℕ → Option (ℕ × ℕ) → Option Place
place_of base None = None
place_of base (Some p) = Some (record { event = p.0; number = base + p.1 })

-- the words hold the log's keys and the items that are counted, and the log's numbers fit a word
pub record Counted (g : ℕ) (head : Head) (keys items : List ℕ) (held : ℕ) : Type 0 where
  pub log : Ring g head.front head.count keys
  pub line : 4 * held ≤ length items
  pub numbers : head.base + head.count < 2 ^ 64

-- the first word of the key at place p, and of the key of a ring's entry e
abbrev pub first_at : List ℕ → ℕ → ℕ
first_at keys p = get_or keys (2 * p) 0

abbrev pub first_of : ℕ → ℕ → List ℕ → ℕ → ℕ
first_of g front keys e = first_at keys (entry_place g front e)

-- r is from `from` to count, and none from `from` to r has the first word k
pub record Passed (first : ℕ → ℕ) (count k from r : ℕ) : Type 0 where
  pub past : from ≤ r
  pub inside : r ≤ count
  pub none : (e : ℕ) → from ≤ e → e < r → first e ≡ k → ⊥
