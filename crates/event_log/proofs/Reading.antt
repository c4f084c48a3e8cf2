-- Laws of a log's reading.
use mathlib.Core.Path.{◌≡◌, refl, ap, ◌∙◌}
use mathlib.Core.List.{List, map}
use Prim.Native.Nat.{ℕ, ◌+◌, ◌-◌, ◌*◌, ◌≤◌, ◌<◌}
use native.Mathlib.Omega.{arith}
use lib.ListN.{length, get_or}
use Rattle.rules.specs.Quantities.{Key}
use Rattle.rules.specs.Log.{keys, end}
use Rattle.words.specs.Words.{tab}
use Rattle.words.proofs.Tab.{length-tab, tab-ext, map-tab}
use Rattle.event_log.specs.Log.{entry_place, stands_at, key_in, keys_of, entry_in, log_of}
use Rattle.event_log.specs.declared.Head.{Head}
use Rattle.event_log.proofs.Ring.{place_inside}

-- the i-th entry of an area
abbrev pub entry_at : ℕ → List ℕ → ℕ → ℕ → Key × ℕ
entry_at g w front i = entry_in g w (entry_place g front i)

-- the number base + i is the i-th entry's
pub stands-entry : (g : ℕ) (h : Head) (i : ℕ) → stands_at g h (h.base + i) ≡ entry_place g h.front i
stands-entry g h i = let e : h.base + i - h.base ≡ i = omega arith in rw e

module _ (g : ℕ) (w : List ℕ) (h : Head) where
  pub log-entries : (log_of g w h).entries ≡ tab h.count (entry_at g w h.front)
  unfolding log_of
  log-entries = tab-ext h.count (λ i. entry_in g w (stands_at g h (h.base + i))) (entry_at g w h.front) (λ i l. ap (entry_in g w) (stands-entry g h i))

  pub log-base : (log_of g w h).base ≡ h.base
  unfolding log_of
  log-base = refl

  pub log-last : (log_of g w h).last ≡ h.last
  unfolding log_of
  log-last = refl

  pub log-length : length (log_of g w h).entries ≡ h.count
  log-length = ap length log-entries ∙ length-tab h.count (entry_at g w h.front)

  pub log-end : end (log_of g w h) ≡ h.base + h.count
  unfolding log_of
  log-end = ap (λ (n : ℕ). h.base + n) log-length

  pub log-keys : keys (log_of g w h) ≡ keys_of g h.front h.count w
  log-keys = ap (λ (es : List (Key × ℕ)). map (λ e. e.0) es) log-entries ∙ map-tab (λ (e : Key × ℕ). e.0) h.count (entry_at g w h.front)

-- words that begin with the same g keys have the same keys
pub keys-same : (g front count : ℕ) (v w : List ℕ) → front < g → count ≤ g → ((i : ℕ) → i < 2 * g → get_or v i 0 ≡ get_or w i 0)
    → keys_of g front count v ≡ keys_of g front count w
keys-same g front count v w f c e =
    tab-ext count (λ i. key_in v (entry_place g front i)) (λ i. key_in w (entry_place g front i)) (λ i l.
    let p = place_inside g front i f (omega arith) in
    rw (e (2 * entry_place g front i) (omega arith), e (2 * entry_place g front i + 1) (omega arith)))
