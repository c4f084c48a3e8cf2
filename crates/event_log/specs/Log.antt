-- The reading of a log's area and head. The area is a ring: its last place is followed by its first.
use Rattle.std.specs.Prelude.{◌≡◌, cond, List, ℕ, ◌+◌, ◌-◌, ◌*◌, ◌≤◌, ◌<◌, ltb, length, get_or, set}
use Rattle.rules.specs.Quantities.{Key, key}
use Rattle.rules.specs.Log.{Log}
use Rattle.words.specs.Words.{tab}
use Rattle.event_log.specs.declared.Head.{Head}

-- request 3: the place of the i-th entry: front plus i, less g where that reaches g
unfoldable pub entry_place : ℕ → ℕ → ℕ → ℕ
entry_place g front i = cond (ltb (front + i) g) (front + i) (front + i - g)

-- request 3: number n stands at front plus n minus base, less g where that reaches g
abbrev pub stands_at : ℕ → Head → ℕ → ℕ
stands_at g h n = entry_place g h.front (n - h.base)

-- the i-th of keys that are two words each
abbrev pub key_in : List ℕ → ℕ → Key
key_in w i = key (get_or w (2 * i) 0) (get_or w (2 * i + 1) 0)

-- the keys of `count` entries, in words that begin with the g keys of a ring
abbrev pub keys_of : ℕ → ℕ → ℕ → List ℕ → List Key
keys_of g front count w = tab count (λ i. key_in w (entry_place g front i))

-- the key and the time at place p of an area of 3g words: g keys, then g times
abbrev pub entry_in : ℕ → List ℕ → ℕ → Key × ℕ
entry_in g w p = (key_in w p, get_or w (2 * g + p) 0)

-- the log that an area and a head mean
unfoldable pub log_of : ℕ → List ℕ → Head → Log
log_of g w h = record { base = h.base; entries = tab h.count (λ i. entry_in g w (stands_at g h (h.base + i))); last = h.last }

-- an area and a head that fit each other
pub record Fit (g : ℕ) (w : List ℕ) (h : Head) : Type 0 where
  pub size : length w ≡ 3 * g
  pub count : h.count ≤ g
  pub front : h.front < g

-- words that begin with the g keys of a ring, with n entries from place p on
pub record Ring (g p n : ℕ) (w : List ℕ) : Type 0 where
  pub size : 2 * g ≤ length w
  pub front : p < g
  pub count : n ≤ g

-- the area with key k and time t at place p
abbrev pub put : ℕ → ℕ → Key → ℕ → List ℕ → List ℕ
put g p k t w = set (set (set w (2 * p) k.0) (2 * p + 1) k.1) (2 * g + p) t
