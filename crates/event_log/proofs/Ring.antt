-- Laws of an entry's place.
use mathlib.Core.Path.{◌≡◌}
use mathlib.Core.Logic.{◌⊎◌, ⊎_elim, inl, inr}
use Prim.Native.Nat.{ℕ, ◌+◌, ◌-◌, ◌≤◌, ◌<◌}
use native.Mathlib.Omega.{arith}
use borrow.Author.Tests.{lt-ltb, le-ltb}
use Rattle.words.proofs.Cases.{below_or}
use Rattle.event_log.specs.Log.{entry_place}

module _ (g front i : ℕ) where
  pub place_short : front + i < g → entry_place g front i ≡ front + i
  unfolding entry_place
  place_short h = rw (lt-ltb (front + i) g h)

  pub place-turned : g ≤ front + i → entry_place g front i ≡ front + i - g
  unfolding entry_place
  place-turned h = rw (le-ltb (front + i) g h)

  -- the two straight pieces
  pub place-cases : ((front + i < g) × (entry_place g front i ≡ front + i)) ⊎ ((g ≤ front + i) × (entry_place g front i ≡ front + i - g))
  place-cases = ⊎_elim (λ h. inl (h, place_short h)) (λ h. inr (h, place-turned h)) (below_or (front + i) g)

  pub place_inside : front < g → i ≤ g → entry_place g front i < g
  place_inside f h = ⊎_elim (λ c. omega arith) (λ c. omega arith) place-cases

-- two entries have two places
pub place-apart : (g front i n : ℕ) → front < g → i < n → n < g → entry_place g front i ≡ entry_place g front n → ⊥
place-apart g front i n f l h e =
    ⊎_elim
    (λ a. ⊎_elim (λ b. omega arith) (λ b. omega arith) (place-cases g front n))
    (λ a. ⊎_elim (λ b. omega arith) (λ b. omega arith) (place-cases g front n))
    (place-cases g front i)

-- entry i behind the k-th is entry k + i
pub place-on : (g front k i : ℕ) → front < g → k + i < g → entry_place g (entry_place g front k) i ≡ entry_place g front (k + i)
place-on g front k i f h =
    ⊎_elim
    (λ a. ⊎_elim (λ b. ⊎_elim (λ c. omega arith) (λ c. omega arith) y) (λ b. ⊎_elim (λ c. omega arith) (λ c. omega arith) y) x)
    (λ a. ⊎_elim (λ b. ⊎_elim (λ c. omega arith) (λ c. omega arith) y) (λ b. ⊎_elim (λ c. omega arith) (λ c. omega arith) y) x)
    (place-cases g front k)
  where
    x : ((entry_place g front k + i < g) × (entry_place g (entry_place g front k) i ≡ entry_place g front k + i))
        ⊎ ((g ≤ entry_place g front k + i) × (entry_place g (entry_place g front k) i ≡ entry_place g front k + i - g))
    x = place-cases g (entry_place g front k) i

    y : ((front + (k + i) < g) × (entry_place g front (k + i) ≡ front + (k + i))) ⊎ ((g ≤ front + (k + i)) × (entry_place g front (k + i) ≡ front + (k + i) - g))
    y = place-cases g front (k + i)
