-- What push, clear and prune do to a log's reading.
use Rattle.std.specs.Prelude.{Option, Some}
use mathlib.Core.Path.{◌≡◌, ◌∙◌, sym, ap}
use mathlib.Core.List.{List}
use Prim.Native.Nat.{ℕ, ◌+◌, ◌-◌, ◌*◌, ◌≤◌, ◌<◌}
use native.Mathlib.Omega.{arith}
use lib.ListN.{length, get_or, set, length-set}
use lib.Seq.{get_or-set_same, get_or-set_other}
use Rattle.rules.specs.Quantities.{Key}
use Rattle.rules.specs.Log.{Log, push, clear, prune, old}
use Rattle.words.proofs.Tab.{tab-ext, tab-snoc, tab-from}
use Rattle.event_log.specs.Log.{entry_place, entry_in, log_of, Fit, put}
use Rattle.event_log.specs.declared.Head.{Head}
use Rattle.event_log.proofs.Ring.{place_inside, place-apart, place-on}
use Rattle.event_log.proofs.Reading.{entry_at, log-base, log-last, log-entries, log-length}

-- a log is its base, its entries and last-applied
log_is : {l : Log} {base : ℕ} {es : List (Key × ℕ)} {last : Option ℕ} → l.base ≡ base → l.entries ≡ es → l.last ≡ last
    → l ≡ record { base = base; entries = es; last = last }
log_is b e s = λ j. record { base = b j; entries = e j; last = s j }

module _ (g p : ℕ) (k : Key) (t : ℕ) (w : List ℕ) (size : length w ≡ 3 * g) (inside : p < g) where
  other : (j : ℕ) → (j ≡ 2 * p → ⊥) → (j ≡ 2 * p + 1 → ⊥) → (j ≡ 2 * g + p → ⊥) → get_or (put g p k t w) j 0 ≡ get_or w j 0
  other j a b e =
      get_or-set_other (set (set w (2 * p) k.0) (2 * p + 1) k.1) (2 * g + p) j t 0 e
      ∙ get_or-set_other (set w (2 * p) k.0) (2 * p + 1) j k.1 0 b
      ∙ get_or-set_other w (2 * p) j k.0 0 a

  put_other : (q : ℕ) → q < g → (q ≡ p → ⊥) → entry_in g (put g p k t w) q ≡ entry_in g w q
  put_other q h d =
      rw (
        other (2 * q) (λ e. d (omega arith)) (omega arith) (omega arith),
        other (2 * q + 1) (omega arith) (λ e. d (omega arith)) (omega arith),
        other (2 * g + q) (omega arith) (omega arith) (λ e. d (omega arith)),
      )

  put-here : entry_in g (put g p k t w) p ≡ (k, t)
  put-here =
      rw (
        get_or-set_other (set (set w (2 * p) k.0) (2 * p + 1) k.1) (2 * g + p) (2 * p) t 0 (omega arith),
        get_or-set_other (set w (2 * p) k.0) (2 * p + 1) (2 * p) k.1 0 (omega arith),
        get_or-set_same w (2 * p) k.0 0 (omega arith),
        get_or-set_other (set (set w (2 * p) k.0) (2 * p + 1) k.1) (2 * g + p) (2 * p + 1) t 0 (omega arith),
        get_or-set_same (set w (2 * p) k.0) (2 * p + 1) k.1 0 (simp length-set (omega arith)),
        get_or-set_same (set (set w (2 * p) k.0) (2 * p + 1) k.1) (2 * g + p) t 0 (simp length-set (omega arith)),
      )

-- the head after a push
abbrev pub pushed : Head → ℕ → Head
pushed h t = record { base = h.base; count = h.count + 1; last = Some t; front = h.front }

module _ {g : ℕ} {w z : List ℕ} {h : Head} (k : Key) (t : ℕ) (fit : Fit g w h) (room : h.count < g)
    (is : z ≡ put g (entry_place g h.front h.count) k t w) where
  abbrev end-place : ℕ
  end-place = entry_place g h.front h.count

  end-inside : end-place < g
  end-inside = place_inside g h.front h.count fit.front (omega arith)

  older : (i : ℕ) → i < h.count → entry_at g (put g end-place k t w) h.front i ≡ entry_at g w h.front i
  older i l =
      put_other g end-place k t w fit.size end-inside (entry_place g h.front i)
      (place_inside g h.front i fit.front (omega arith)) (place-apart g h.front i h.count fit.front l room)

  pushed-entries : (log_of g (put g end-place k t w) (pushed h t)).entries ≡ (push k t (log_of g w h)).entries
  pushed-entries =
      log-entries g (put g end-place k t w) (pushed h t)
      ∙ tab-snoc h.count (entry_at g (put g end-place k t w) h.front)
      ∙ rw (
        put-here g end-place k t w fit.size end-inside,
        tab-ext h.count (entry_at g (put g end-place k t w) h.front) (entry_at g w h.front) older,
        log-entries g w h,
      )

  pub push-done : log_of g z (pushed h t) ≡ push k t (log_of g w h)
  push-done =
      rw is (log_is (log-base g _ (pushed h t) ∙ sym (log-base g w h)) pushed-entries (log-last g _ (pushed h t)))

  pub push-fit : Fit g z (pushed h t)
  push-fit = record { size = rw is (simp length-set fit.size); count = omega arith; front = fit.front }

pub clear-done : (g : ℕ) (w : List ℕ) (h : Head)
    → log_of g w (record { base = h.base + h.count; count = 0; last = h.last; front = h.front }) ≡ clear (log_of g w h)
clear-done g w h =
    let r : Head = record { base = h.base + h.count; count = 0; last = h.last; front = h.front } in
    log_is
    (log-base g w r ∙ rw (log-base g w h, log-length g w h))
    (log-entries g w r)
    (log-last g w r ∙ sym (log-last g w h))

-- a prune that drops k entries moves the front to p, the k-th's place where one is left
module _ {g k p : ℕ} {w : List ℕ} {h : Head} (fit : Fit g w h) (some : k ≤ h.count) (below : p < g) (at : k < h.count → p ≡ entry_place g h.front k) where
  abbrev left-head : Head
  left-head = record { base = h.base + k; count = h.count - k; last = h.last; front = p }

  pub prune-fit : Fit g w left-head
  prune-fit = record { size = fit.size; count = omega arith; front = below }

  kept_entry : (i : ℕ) → i < h.count - k → entry_at g w p i ≡ entry_at g w h.front (k + i)
  kept_entry i l = rw (at (omega arith)) (ap (entry_in g w) (place-on g h.front k i fit.front (omega arith)))

  pub prune-done : (t : ℕ) → k ≡ old t (log_of g w h).entries → log_of g w left-head ≡ prune t (log_of g w h)
  prune-done t q =
      rw (← q) (log_is
      (log-base g w left-head ∙ rw (log-base g w h))
      (log-entries g w left-head
      ∙ tab-ext (h.count - k) (entry_at g w p) (λ i. entry_at g w h.front (k + i)) kept_entry
      ∙ rw (log-entries g w h) (sym (tab-from k h.count (entry_at g w h.front))))
      (log-last g w left-head ∙ sym (log-last g w h)))
