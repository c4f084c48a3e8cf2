-- What the answers in numbers say: the test of a depth, a level set on a side and in a depth, and the best level of a side.
use mathlib.Core.Path.{◌≡◌, sym, ap, ◌∙◌}
use mathlib.Core.Bool.{Bool, true, false}
use mathlib.Core.List.{List}
use Prim.Native.Nat.{ℕ, zero, suc, ◌-◌, ◌≤◌, ◌<◌}
use native.Mathlib.Omega.{arith}
use native.Mathlib.Nat.{not-suc-le-zero}
use lib.Ieee.{Float}
use Rattle.std.specs.Bool.{then_some}
use Rattle.std.specs.Prelude.{Option, None, Some, Result, Ok, Err}
use Rattle.levels.specs.declared.refusal.Refusal.{Refusal}
use Rattle.levels.specs.Depth.{Book, best_of, set_side, side_of, sound, set, with_side}
use Rattle.levels.specs.Work as Work
use Rattle.levels.specs.Work.{level_in, side_in, Falling, Stays}
use Rattle.levels.proofs.Reversed.{side-count, side-falling, best-last, best-nothing}
use Rattle.levels.proofs.Books.{sound-bids, sound-asks, set-done}
use Rattle.depth_exports.specs.Told.{Arrays, arrays, book_in, told, told_set, Tells, reported_by}

-- ---- the test of a depth

module _ (b : Book) (r : Bool) (tested : r ≡ sound b) where
  pub is-sound : r ≡ true → sound b ≡ true
  is-sound e = sym tested ∙ e

  pub is-unsound : r ≡ false → sound b ≡ false
  is-unsound e = sym tested ∙ e

-- both sides lie as the work on a side asks
module _ (x : Arrays) (bids asks : ℕ) (good : sound (book_in x bids asks) ≡ true) where
  pub bids-lie : (bids ≤ 512) × Falling false x.bid_prices bids
  bids-lie =
      let h = sound-bids (book_in x bids asks) good in
      (side-count true x.bid_prices x.bid_sizes bids h, side-falling true x.bid_prices x.bid_sizes bids h)

  pub asks-lie : (asks ≤ 512) × Falling true x.ask_prices asks
  asks-lie =
      let h = sound-asks (book_in x bids asks) good in
      (side-count false x.ask_prices x.ask_sizes asks h, side-falling false x.ask_prices x.ask_sizes asks h)

-- what the host says is reported, as an `Option`
pub reported : (is : Bool) (price : ℕ) {best : Option ℕ} → best ≡ then_some is price → best ≡ reported_by is price
reported true price e = e
reported false price e = e

-- ---- a level set

pub not-refused : {A : Type 0} {code : ℕ} → code ≡ 1 → code ≡ 0 → A
not-refused e z = absurd (omega arith)

pub tells-side : (a : Result ℕ Refusal) (code number : ℕ) (ps : List ℕ) (ss : List Float) → Tells a code number
    → told code number (side_in ps ss number) ≡ Work.as_side a ps ss
tells-side (Ok n) code number ps ss t = rw (t.0, t.1)
tells-side (Err n) code number ps ss t = rw (t.0, t.1)

pub tells-same : (a : Result ℕ Refusal) (code number : ℕ) (ps : List ℕ) (ss : List Float) (ps' : List ℕ) (ss' : List Float)
    → Tells a code number → Stays a ps ss ps' ss' → code ≡ 0 → (ps' ≡ ps) × (ss' ≡ ss)
tells-same (Ok n) code number ps ss ps' ss' t s z = not-refused t.0 z
tells-same (Err n) code number ps ss ps' ss' t s z = s

-- the arrays with a side put in
abbrev pub put : Bool → Arrays → List ℕ → List Float → Arrays
put true x ps ss = arrays ps ss x.ask_prices x.ask_sizes
put false x ps ss = arrays x.bid_prices x.bid_sizes ps ss

module _ (x : Arrays) (bids asks : ℕ) (code number : ℕ) (ps : List ℕ) (ss : List Float) where
  tells-book : (bid : Bool) (a : Result ℕ Refusal) → Tells a code number
      → told_set bid code number (put bid x ps ss) bids asks ≡ with_side bid (book_in x bids asks) (Work.as_side a ps ss)
  tells-book true (Ok n) t = rw (t.0, t.1)
  tells-book true (Err n) t = rw (t.0, t.1)
  tells-book false (Ok n) t = rw (t.0, t.1)
  tells-book false (Err n) t = rw (t.0, t.1)

  pub tells-set : (bid : Bool) (p : ℕ) (s : Float) (a : Result ℕ Refusal) → Tells a code number → sound (book_in x bids asks) ≡ true
      → Work.as_side a ps ss ≡ set_side bid p s (side_of bid (book_in x bids asks))
      → told_set bid code number (put bid x ps ss) bids asks ≡ set bid p s (book_in x bids asks)
  tells-set bid p s a t good e =
      tells-book bid a t ∙ ap (with_side bid (book_in x bids asks)) e ∙ sym (set-done (book_in x bids asks) bid p s good)

-- ---- the best level

module _ (ps : List ℕ) (ss : List Float) where
  pub best-some : (n : ℕ) → 0 < n → best_of (side_in ps ss n) ≡ Some (level_in ps ss (n - 1))
  best-some zero h = absurd (not-suc-le-zero h)
  best-some (suc n) h = let e : suc n - 1 ≡ n = omega arith in rw e (best-last ps ss n)

  pub best_none : (n : ℕ) → n ≤ 0 → best_of (side_in ps ss n) ≡ None
  best_none zero h = best-nothing ps ss
  best_none (suc n) h = absurd (not-suc-le-zero h)
