-- What a log's reading says of a number and of old entries.
use Rattle.std.specs.Prelude.{None, Some}
use mathlib.Core.Path.{◌≡◌, refl, ap, sym, ◌∙◌}
use mathlib.Core.List.{List}
use Prim.Native.Nat.{ℕ, zero, suc, ◌+◌, ◌-◌, ◌*◌, ◌≤◌, ◌<◌, zero-le, suc-le-suc}
use native.Mathlib.Nat.{le_of_suc-le-suc, not-suc-le-zero}
use native.Mathlib.Omega.{arith}
use lib.ListN.{length, get_or, length-map}
use borrow.Author.Tests.{lt-ltb, le-ltb, le-leb, lt-leb}
use Rattle.rules.specs.Quantities.{Key, no_key, age, log_keep}
use Rattle.rules.specs.Log.{Log, keys, key_at, old}
use Rattle.words.specs.Words.{tab}
use Rattle.words.proofs.Tab.{length-tab, get_d-tab}
use Rattle.event_log.specs.Log.{entry_place, log_of}
use Rattle.event_log.specs.declared.Head.{Head}
use Rattle.event_log.proofs.Reading.{entry_at, log-entries}

pub number-before : (l : Log) (n : ℕ) → n < l.base → key_at n l ≡ None
unfolding key_at
number-before l n b = simp (lt-leb _ _ b)

-- the key of a number in a log whose keys are f 0, f 1, ..
module _ (l : Log) (count : ℕ) (f : ℕ → Key) (stand : keys l ≡ tab count f) (n : ℕ) where
  entries : length l.entries ≡ count
  entries = sym (length-map l.entries (λ e. e.0)) ∙ ap length stand ∙ length-tab count f

  pub number_past : l.base ≤ n → count ≤ n - l.base → key_at n l ≡ None
  unfolding key_at
  number_past b e = simp (le-leb _ _ b, entries, le-ltb n (l.base + count) (omega arith))

  pub number_in : l.base ≤ n → n - l.base < count → key_at n l ≡ Some (f (n - l.base))
  unfolding key_at
  number_in b e =
      simp (le-leb _ _ b, entries, lt-ltb n (l.base + count) (omega arith), stand, get_d-tab count f (n - l.base) no_key e)

-- i entries at the front are old, and no more
old-is : (t n : ℕ) (f : ℕ → Key × ℕ) (i : ℕ) → i ≤ n → ((j : ℕ) → j < i → log_keep < age t (f j).1) → (i < n → age t (f i).1 ≤ log_keep) → i ≡ old t (tab n f)
unfolding old
old-is t zero f zero l a e = refl
old-is t zero f (suc i) l a e = absurd (not-suc-le-zero l)
old-is t (suc n) f zero l a e = rw (le-ltb log_keep (age t (f 0).1) (e (suc-le-suc zero-le)))
old-is t (suc n) f (suc i) l a e =
    rw (
      lt-ltb log_keep (age t (f 0).1) (a 0 (suc-le-suc zero-le)),
      ← old-is t n (λ j. f (suc j)) i (le_of_suc-le-suc l) (λ j k. a (suc j) (suc-le-suc k)) (λ k. e (suc-le-suc k)),
    )

pub count-old-done : (g : ℕ) (w : List ℕ) (h : Head) (t i : ℕ) → i ≤ h.count
    → ((j : ℕ) → j < i → log_keep < age t (get_or w (2 * g + entry_place g h.front j) 0))
    → (i < h.count → age t (get_or w (2 * g + entry_place g h.front i) 0) ≤ log_keep)
    → i ≡ old t (log_of g w h).entries
count-old-done g w h t i l a e = rw (log-entries g w h) (old-is t h.count (entry_at g w h.front) i l a e)
