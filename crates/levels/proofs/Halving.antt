-- The place of a price: the prices before it are better than the one sought, and those from it on are not.
-- And what the place that is found says of the prices at the one sought or better.
use mathlib.Core.Path.{◌≡◌, sym, ◌∙◌}
use mathlib.Core.Logic.{⊎_elim}
use mathlib.Core.Bool.{Bool, true, false, ◌&&◌}
use mathlib.Core.List.{List}
use Prim.Native.Nat.{ℕ, ◌+◌, ◌≤◌, ◌<◌, zero-le}
use native.Mathlib.Omega.{arith}
use lib.Dec.{ltb, eqb}
use lib.ListN.{length, get_or, take}
use borrow.Author.Tests.{ltb-true, eqb-true, lt-ltb, eq-eqb}
use Rattle.std.specs.List.Sorted.{IsPartitionedBy, IsPartitionPoint}
use Rattle.std.proofs.lemmas.List.{get_or-take, get_or_default, length-take}
use Rattle.rules.proofs.Tests.{ff≢tt, and-true-left, and-true-right}
use Rattle.words.proofs.Cases.{below_or}
use Rattle.levels.specs.Depth.{better}
use Rattle.levels.specs.Work.{Falling, Place, Through}
use Rattle.levels.proofs.Prices.{better-over, better-self, better-back, better-other}

-- the prices that are better than one sought stand before the others
module _ (falling : Bool) (prices : List ℕ) (n p : ℕ) (h : n ≤ length prices) where
  long : length (take n prices) ≡ n
  long = omega (arith, length-take n prices)

  front : (k d : ℕ) → k < n → get_or (take n prices) k d ≡ get_or prices k 0
  front k d l = get_or-take n prices k d l ∙ get_or_default prices k d 0 (omega arith)

  pub parted : Falling falling prices n → IsPartitionedBy (λ q. better falling q p) (take n prices)
  parted f i j d l m e =
      let k : j < n = omega (arith, long) in
      ⊎_elim
      (λ b. rw (front i d (omega arith)) (better-over falling _ _ _ (f i j b k) (rw (front j d k) at e)))
      (λ b. let q : i ≡ j = omega arith in rw q e)
      (below_or i j)

  pub point-place : (at : ℕ) → at ≤ length (take n prices)
      → IsPartitionPoint (λ q. better falling q p ≡ true) (λ q. better falling q p ≡ false) (take n prices) at → Place falling prices n p at
  point-place at w s =
      record {
        within = omega (arith, long);
        ahead = λ k l. rw (front k 0 (omega (arith, long))) at (s.0 k 0 zero-le l);
        behind = λ k l m. rw (front k 0 m) at (s.1 k 0 l (omega (arith, long)));
      }

-- r says whether the price itself stands at its place
module _ (falling : Bool) (prices : List ℕ) (n p : ℕ) (f : Falling falling prices n) (at : ℕ) (s : Place falling prices n p at) (r : Bool)
    (e : r ≡ (ltb at n && eqb (get_or prices at 0) p)) where
  pub through-more : r ≡ true → Through falling prices n p (at + 1)
  through-more t =
      let l : at < n = ltb-true _ _ (and-true-left _ _ (sym e ∙ t)) in
      let q : get_or prices at 0 ≡ p = eqb-true _ _ (and-true-right (ltb at n) _ (sym e ∙ t)) in
      record {
        within = omega arith;
        ahead = λ k h.
            ⊎_elim
            (λ z. better-back falling _ _ (s.ahead k z))
            (λ z. let d : k ≡ at = omega arith in rw (d, q) (better-self falling p))
            (below_or k at);
        behind = λ k h m. rw q at (f at k (omega arith) m);
      }

  pub through_here : r ≡ false → Through falling prices n p at
  through_here t =
      record {
        within = s.within;
        ahead = λ k h. better-back falling _ _ (s.ahead k h);
        behind = λ k h m.
            let d : get_or prices at 0 ≡ p → ⊥ = λ q. ff≢tt (sym e ∙ t) (rw (lt-ltb at n (omega arith), eq-eqb _ _ q)) in
            let o : better falling p (get_or prices at 0) ≡ true = better-other falling _ _ (s.behind at (omega arith) (omega arith)) d in
            ⊎_elim
            (λ z. better-over falling _ _ _ o (f at k z m))
            (λ z. let x : k ≡ at = omega arith in rw x o)
            (below_or at k);
      }
