-- A sound side's count and order; the levels of a side that pass a test, where those that do stand together at one end.
use mathlib.Core.Path.{◌≡◌, refl, ap}
use mathlib.Core.Bool.{Bool, true, false}
use mathlib.Core.List.{List, ◌∷◌}
use Prim.Native.Nat.{ℕ, zero, suc, ◌≤◌, ◌<◌, suc-le-suc, zero-le}
use native.Mathlib.Nat.{not-suc-le-zero, le_of_suc-le-suc}
use native.Mathlib.Omega.{arith}
use lib.ListN.{take, drop}
use lib.Ieee.{Float}
use Rattle.rules.specs.Lists.{keep}
use Rattle.words.specs.Words.{tab}
use Rattle.words.proofs.Tab.{length-tab}
use Rattle.words.proofs.Lists.{rising-in}
use Rattle.levels.specs.Depth.{side_sound}
use Rattle.levels.specs.Work.{level_in, levels_of, Falling}
use Rattle.levels.proofs.Order.{Better, Sound, sound-says}

-- ---- rows made from an index
module _ {A : Type 0} where
  pub take-tab : (k n : ℕ) (f : ℕ → A) → k ≤ n → take k (tab n f) ≡ tab k f
  take-tab zero n f h = refl
  take-tab (suc k) zero f h = absurd (not-suc-le-zero h)
  take-tab (suc k) (suc n) f h = ap (λ (l : List A). f 0 ∷ l) (take-tab k n (λ i. f (suc i)) (le_of_suc-le-suc h))

  -- the first k pass, and no others
  pub keep-front : (t : A → Bool) (k n : ℕ) (f : ℕ → A) → ((i : ℕ) → i < k → t (f i) ≡ true) → ((i : ℕ) → k ≤ i → i < n → t (f i) ≡ false)
      → keep t (tab n f) ≡ take k (tab n f)
  keep-front t zero zero f h g = refl
  keep-front t (suc k) zero f h g = refl
  keep-front t zero (suc n) f h g =
      rw (g 0 zero-le (omega arith)) (keep-front t zero n (λ i. f (suc i)) (λ i l. h (suc i) (omega arith)) (λ i l m. g (suc i) zero-le (suc-le-suc m)))
  keep-front t (suc k) (suc n) f h g =
      rw (h 0 (omega arith))
      (ap (λ (l : List A). f 0 ∷ l)
      (keep-front t k n (λ i. f (suc i)) (λ i l. h (suc i) (suc-le-suc l)) (λ i l m. g (suc i) (suc-le-suc l) (suc-le-suc m))))

  -- all pass but the first k
  pub keep-back : (t : A → Bool) (k n : ℕ) (f : ℕ → A) → ((i : ℕ) → i < k → t (f i) ≡ false) → ((i : ℕ) → k ≤ i → i < n → t (f i) ≡ true)
      → keep t (tab n f) ≡ drop k (tab n f)
  keep-back t zero zero f h g = refl
  keep-back t (suc k) zero f h g = refl
  keep-back t zero (suc n) f h g =
      rw (g 0 zero-le (omega arith))
      (ap (λ (l : List A). f 0 ∷ l)
      (keep-back t zero n (λ i. f (suc i)) (λ i l. h (suc i) (omega arith)) (λ i l m. g (suc i) zero-le (suc-le-suc m))))
  keep-back t (suc k) (suc n) f h g =
      rw (h 0 (omega arith)) (keep-back t k n (λ i. f (suc i)) (λ i l. h (suc i) (suc-le-suc l)) (λ i l m. g (suc i) (suc-le-suc l) (suc-le-suc m)))

-- ---- order
module _ (bid : Bool) (ps : List ℕ) (ss : List Float) (n : ℕ) (sound : side_sound bid (levels_of ps ss n) ≡ true) where
  says : Sound bid (levels_of ps ss n)
  says = sound-says bid (levels_of ps ss n) sound

  pub sound-count : n ≤ 512
  sound-count = omega (arith, says.few, length-tab n (level_in ps ss))

  pub sound-falling : Falling bid ps n
  sound-falling = rising-in (Better bid) n (level_in ps ss) says.rising
