-- A side taken apart reads as before, and a sound one is no longer than its array.
use mathlib.Core.Path.{◌≡◌, refl, ap, ◌∙◌}
use mathlib.Core.Bool.{Bool, true}
use mathlib.Core.List.{List, [], ◌∷◌, reverse, reverse-append}
use Prim.Native.Nat.{ℕ, zero, suc, ◌-◌, ◌≤◌}
use native.Mathlib.Omega.{arith}
use lib.ListN.{get_or}
use lib.Ieee.{Float}
use Rattle.std.specs.Prelude.{Option, cond, false, slice_get}
use Rattle.rules.specs.Answers.{Queried, refusal, value}
use Rattle.words.specs.Words.{tab}
use Rattle.words.proofs.Tab.{tab-ext, tab-suc, length-tab}
use Rattle.levels.specs.declared.Level.{Level}
use Rattle.levels.specs.Depth.{side_sound, Book, side_of, sound, best_of, best, levels}
use Rattle.levels.specs.Work.{level_in, side_in}
use Rattle.levels.proofs.Order.{sound-says}
use Rattle.levels.proofs.Books.{sound-bids, sound-asks}
use Rattle.depth.specs.declared.Depth.{Depth}
use Rattle.depth.specs.Value.{blank, levels_in, book_of, Split}

reverse-tab : {A : Type 0} (n : ℕ) (f : ℕ → A) → reverse (tab n f) ≡ tab n (λ i. f (n - 1 - i))
reverse-tab zero f = refl
reverse-tab (suc n) f =
    ap reverse (tab-suc n f)
    ∙ reverse-append (tab n f) (f n ∷ [])
    ∙ (λ j. f (first n j) ∷ (reverse-tab n f ∙ tab-ext n (λ i. f (n - 1 - i)) (λ i. f (suc n - 1 - suc i)) (λ i h. ap f (omega arith))) j)
  where
    first : (n : ℕ) → n ≡ suc n - 1 - 0
    first n = omega arith

pub split-side : (ls : List Level) (prices : List ℕ) (sizes : List Float) (n : ℕ) → Split ls n prices sizes n → side_in prices sizes n ≡ levels_in ls n
split-side ls prices sizes n s =
    reverse-tab n (level_in prices sizes)
    ∙ tab-ext n (λ i. level_in prices sizes (n - 1 - i)) (λ i. get_or ls i blank)
    (λ i h. let e : n - 1 - (n - 1 - i) ≡ i = omega arith in s (n - 1 - i) (omega arith) ∙ ap (λ (k : ℕ). get_or ls k blank) e)

-- a sound side has at most 512 levels
pub sound-few : (bid : Bool) (ls : List Level) (n : ℕ) → side_sound bid (levels_in ls n) ≡ true → n ≤ 512
sound-few bid ls n e = rw length-tab at (sound-says bid (levels_in ls n) e).few

-- so have both sides of a sound depth
pub counts : (d : Depth) → sound (book_of d) ≡ true → (d.bids.count ≤ 512) × (d.asks.count ≤ 512)
counts d e = (sound-few true d.bids.levels d.bids.count (sound-bids (book_of d) e), sound-few false d.asks.levels d.asks.count (sound-asks (book_of d) e))

-- the best level of an answer's levels
abbrev pub first_of : Queried (List Level) → Queried (Option Level)
first_of (refusal n) = refusal n
first_of (value ls) = value (best_of ls)

pub best-first : (b : Book) (bid : Bool) {q : Queried (List Level)} → q ≡ levels bid b → first_of q ≡ best bid b
unfolding levels best
best-first b bid e = ap first_of e ∙ go (sound b)
  where
    go : (t : Bool) → first_of (cond t (value (side_of bid b)) (refusal 1)) ≡ cond t (value (best_of (side_of bid b))) (refusal 1)
    go true = refl
    go false = refl

-- what the levels of either side are refused with, the best of each is
pub best_refused : (b : Book) (bid other : Bool) {n : ℕ} → refusal n ≡ levels bid b → refusal n ≡ best other b
unfolding levels best
best_refused b bid other {n} e = go (sound b) e
  where
    go : (t : Bool) → refusal n ≡ cond t (value (side_of bid b)) (refusal 1) → refusal n ≡ cond t (value (best_of (side_of other b))) (refusal 1)
    go true h = absurd cc
    go false h = cc

pub first-best : (ls : List Level) → slice_get ls 0 ≡ best_of ls
first-best [] = refl
first-best (l ∷ ls) = refl
