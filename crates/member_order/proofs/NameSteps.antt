-- Two names that go up to an FF each, by their first bytes.
use mathlib.Core.Path.{◌≡◌, refl, sym, ◌∙◌, ap}
use mathlib.Core.List.{List, [], ◌∷◌}
use Prim.Native.Nat.{ℕ, zero, suc, ◌+◌, ◌<◌}
use native.Mathlib.Omega.{arith}
use borrow.Author.Tests.{eq-eqb, ne_eqb, ltb-true, ltb-false}
use mathlib.Core.Bool.{Bool, true, false}
use Rattle.std.specs.Prelude.{nat_lt}
use Rattle.std.specs.Ordering.{nat_cmp}
use lib.ListN.{drop, get_or}
use Rattle.json_text.specs.Content.{before}
use Rattle.std.specs.declared.cmp.Ordering.TheVariants as Ordering
use Rattle.json_text.specs.Work.{up_to_ff}
use Rattle.member_order.specs.Names.{name_in, order_of}
use Rattle.member_order.proofs.Before.{before-less, before_more, before-equal}

-- a name by its first byte
pub name-ended : (b : ℕ) (s : List ℕ) → b ≡ 0xFF → up_to_ff (b ∷ s) ≡ []
unfolding up_to_ff
name-ended b s e = rw (eq-eqb b 0xFF e)

pub name-more : (b : ℕ) (s : List ℕ) → (b ≡ 0xFF → ⊥) → up_to_ff (b ∷ s) ≡ b ∷ up_to_ff s
unfolding up_to_ff
name-more b s n = rw (ne_eqb b 0xFF n)

pub name-at : (w : List ℕ) (i : ℕ) → name_in w i ≡ up_to_ff (get_or w i 0xFF ∷ drop (i + 1) w)
unfolding up_to_ff
name-at [] zero = refl
name-at [] (suc i) = refl
name-at (b ∷ w) zero = refl
name-at (b ∷ w) (suc i) =
    let e : suc (i + 1) ≡ suc i + 1 = omega arith in
    name-at w i ∙ ap (λ (n : ℕ). up_to_ff (get_or w i 0xFF ∷ drop n (b ∷ w))) e

-- two names by their first bytes
module _ (x y : ℕ) (s u : List ℕ) where
  pub first_ended : x ≡ 0xFF → (y ≡ 0xFF → ⊥) → Ordering.Less ≡ order_of (up_to_ff (x ∷ s)) (up_to_ff (y ∷ u))
  unfolding order_of before
  first_ended e n = rw (name-ended x s e, name-more y u n)

  pub second_ended : (x ≡ 0xFF → ⊥) → y ≡ 0xFF → Ordering.Greater ≡ order_of (up_to_ff (x ∷ s)) (up_to_ff (y ∷ u))
  unfolding order_of before
  second_ended n e = rw (name-more x s n, name-ended y u e)

  pub both-ended : x ≡ 0xFF → y ≡ 0xFF → Ordering.Equal ≡ order_of (up_to_ff (x ∷ s)) (up_to_ff (y ∷ u))
  unfolding order_of before
  both-ended e f = rw (name-ended x s e, name-ended y u f)

  module _ (n : x ≡ 0xFF → ⊥) (m : y ≡ 0xFF → ⊥) where
    pub first-less : x < y → Ordering.Less ≡ order_of (up_to_ff (x ∷ s)) (up_to_ff (y ∷ u))
    unfolding order_of
    first-less h = rw (name-more x s n, name-more y u m, before-less x y (up_to_ff s) (up_to_ff u) h)

    pub first_more : y < x → Ordering.Greater ≡ order_of (up_to_ff (x ∷ s)) (up_to_ff (y ∷ u))
    unfolding order_of
    first_more h =
        rw (name-more x s n, name-more y u m, before_more x y (up_to_ff s) (up_to_ff u) h, before-less y x (up_to_ff u) (up_to_ff s) h)

    -- by the bytes' own order
    pub first_differs : (x ≡ y → ⊥) → nat_cmp x y ≡ order_of (up_to_ff (x ∷ s)) (up_to_ff (y ∷ u))
    first_differs d = go (nat_lt x y) refl
      where
        go : (b : Bool) → nat_lt x y ≡ b → nat_cmp x y ≡ order_of (up_to_ff (x ∷ s)) (up_to_ff (y ∷ u))
        go true e = rw e (first-less (ltb-true x y e))
        go false e = rw (e, ne_eqb x y d) (first_more (omega (arith, ltb-false x y e, d)))

    pub first-equal : x ≡ y → order_of (up_to_ff s) (up_to_ff u) ≡ order_of (up_to_ff (x ∷ s)) (up_to_ff (y ∷ u))
    unfolding order_of
    first-equal e =
        rw (name-more x s n, name-more y u m, before-equal x y (up_to_ff s) (up_to_ff u) e, before-equal y x (up_to_ff u) (up_to_ff s) (sym e))

-- the bytes read at two places are the first of the names there
pub order-read : (w : List ℕ) (i j x y : ℕ) → x ≡ get_or w i 0xFF → y ≡ get_or w j 0xFF
    → order_of (up_to_ff (x ∷ drop (i + 1) w)) (up_to_ff (y ∷ drop (j + 1) w)) ≡ order_of (name_in w i) (name_in w j)
order-read w i j x y p q = rw (p, q, name-at w i, name-at w j)
