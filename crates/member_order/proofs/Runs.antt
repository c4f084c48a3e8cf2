-- The elements of a list from a place on.
use mathlib.Core.Path.{◌≡◌, refl, ◌∙◌, ap}
use mathlib.Core.List.{List, [], ◌∷◌, ◌++◌}
use Prim.Native.Nat.{ℕ, zero, suc, ◌+◌, ◌-◌, ◌≤◌, ◌<◌}
use native.Mathlib.Numerals.{add-one}
use native.Mathlib.Omega.{arith}
use lib.ListN.{length, take, drop, get_or, length-take, length-drop, drop_of_length-le}
use lib.Seq.{drop-cons, get_or-take, get_or-drop, take-take, take-add, drop-drop}
use Rattle.member_order.specs.Order.{run}
use Rattle.member_order.proofs.Insert.{Each}

module _ (w : List ℕ) (from n : ℕ) where
  pub get_d-run : (i : ℕ) → i < n → get_or (run w from n) i 0 ≡ get_or w (from + i) 0
  get_d-run i h = get_or-take n (drop from w) i 0 h ∙ get_or-drop from w i 0

  module _ (fits : from + n ≤ length w) where
    pub length_run : length (run w from n) ≡ n
    length_run = omega (arith, length-take n (drop from w), length-drop from w)

    pub each-run : (P : ℕ → Type 0) → Each P (run w from n) → (i : ℕ) → i < n → P (get_or w (from + i) 0)
    each-run P f i h = rw get_d-run at (f i (omega (arith, length_run)))

    pub run-next : (i : ℕ) → i < n → drop i (run w from n) ≡ get_or w (from + i) 0 ∷ drop (i + 1) (run w from n)
    run-next i h =
        rw (add-one, ← get_d-run i h)
        (drop-cons (run w from n) i 0 (omega (arith, length_run)))

    pub run_end : (i : ℕ) → n ≤ i → drop i (run w from n) ≡ []
    run_end i h = drop_of_length-le (run w from n) {i = i} (omega (arith, length_run))

-- what stands in front of a place says what a run there is
pub run_take : (w : List ℕ) (from n m : ℕ) → from + n ≤ m → run (take m w) from n ≡ run w from n
run_take w zero n m h = take-take n m w (omega arith)
run_take w (suc from) n zero h = absurd (omega arith)
run_take [] (suc from) n (suc m) h = refl
run_take (p ∷ w) (suc from) n (suc m) h = run_take w from n m (omega arith)

pub run-split : (w : List ℕ) (from n m : ℕ) → run w from (n + m) ≡ run w from n ++ run w (from + n) m
run-split w from n m = take-add n m (drop from w) ∙ ap (λ (l : List ℕ). run w from n ++ take m l) (drop-drop n from w)

pub each_part :
    (P : ℕ → Type 0) (w : List ℕ) (from n at m : ℕ) → from + n ≤ length w → from ≤ at → at + m ≤ from + n → Each P (run w from n) →
    Each P (run w at m)
each_part P w from n at m f g h e i l =
    let k : i < m = omega (arith, length_run w at m (omega arith)) in
    let q : from + (at - from + i) ≡ at + i = omega arith in
    rw (get_d-run w at m i k) (rw q at (each-run w from n f P e (at - from + i) (omega arith)))
