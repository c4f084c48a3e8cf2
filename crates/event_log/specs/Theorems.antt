-- What holds of a log's reading; proved in proofs/Theorems.
use Rattle.std.specs.Prelude.{Some, ◌≡◌, List, ℕ, ◌+◌, ◌-◌, ◌≤◌, ◌<◌, get_or}
use Rattle.rules.specs.Quantities.{no_key}
use Rattle.rules.specs.Log.{key_at}
use Rattle.event_log.specs.Log.{key_in, entry_in, stands_at, log_of, Fit}
use Rattle.event_log.specs.declared.Head.{Head}

-- request 3: 'Number n is proved to stand, at any base, at front plus n minus base, less G where that reaches G.'
pub record Stands (g : ℕ) (w : List ℕ) (h : Head) (n : ℕ) : Type 0 where
  pub entry : get_or (log_of g w h).entries (n - h.base) (no_key, 0) ≡ entry_in g w (stands_at g h n)
  pub key : key_at n (log_of g w h) ≡ Some (key_in w (stands_at g h n))
  pub inside : stands_at g h n < g
  pub short : h.front + (n - h.base) < g → stands_at g h n ≡ h.front + (n - h.base)
  pub long : g ≤ h.front + (n - h.base) → stands_at g h n + g ≡ h.front + (n - h.base)

abbrev pub EachStands : Type 0
EachStands = (g : ℕ) (w : List ℕ) (h : Head) (n : ℕ) → Fit g w h → h.base ≤ n → n < h.base + h.count → Stands g w h n
