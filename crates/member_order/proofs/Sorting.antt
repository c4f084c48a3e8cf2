-- What sorting two parts and merging them makes of the whole.
use mathlib.Core.Path.{◌≡◌, refl, sym, ◌∙◌, ap}
use mathlib.Core.List.{List, [], ◌∷◌}
use Prim.Native.Nat.{ℕ, ◌+◌, ◌-◌, ◌≤◌, ◌<◌}
use native.Mathlib.Omega.{arith}
use lib.ListN.{length, take}
use lib.Seq.{length-take-le}
use Rattle.member_order.specs.Order.{insert, insert_all, ordered, run, Rising, Rewritten}
use Rattle.member_order.proofs.Insert.{Each, ordered-append, each-ordered}
use Rattle.member_order.proofs.Merging.{rising-ordered}
use Rattle.member_order.proofs.Runs.{length_run, run-split, each_part}
use Rattle.member_order.proofs.Rewriting.{rewritten-second, rewritten-over}

-- fewer than two are in order
ordered-few : (name : ℕ → List ℕ) (x : List ℕ) → length x < 2 → ordered name x ≡ x
unfolding insert insert_all
ordered-few name [] h = refl
ordered-few name (p ∷ []) h = refl
ordered-few name (p ∷ q ∷ x) h = absurd (omega arith)

-- sorted is what was rewritten, and how many are left
abbrev pub Sorted : (name : ℕ → List ℕ) (u : List ℕ) (low n : ℕ) (w : List ℕ) (r : ℕ) → Type 0
Sorted name u low n w r = Rewritten u low n (ordered name (run u low n)) w × (r ≡ length (ordered name (run u low n)))

pub sorted-few : (name : ℕ → List ℕ) (u : List ℕ) (low n : ℕ) → low + n ≤ length u → n < 2 → Sorted name u low n u n
sorted-few name u low n f h =
    let l = length_run u low n f in
    rw (ordered-few name (run u low n) (omega arith)) (
      record { size = refl; few = omega arith; is = ap (λ (k : ℕ). run u low k) l; below = refl; above = refl },
      sym l,
    )

module _ (name : ℕ → List ℕ) (u v w : List ℕ) (low n h a b : ℕ) (fits : low + n ≤ length u) (part : h ≤ n) (first : Sorted name u low h v a) where
  -- the second part is still to be sorted
  run-still : run v (low + h) (n - h) ≡ run u (low + h) (n - h)
  run-still = ap (take (n - h)) first.0.above

  pub second-each : (P : ℕ → Type 0) → Each P (run u low n) → Each P (run v (low + h) (n - h))
  second-each P e = rw run-still (each_part P u low n (low + h) (n - h) fits (omega arith) (omega arith) e)

  module _ (second : Sorted name v (low + h) (n - h) w b) where
    few-left : a ≤ h
    few-left = omega (arith, first.1, first.0.few)

    few-right : b ≤ n - h
    few-right = omega (arith, second.1, second.0.few)

    size : length w ≡ length u
    size = second.0.size ∙ first.0.size

    both : Rewritten u low n (ordered name (run u low h)) w
    both =
        let q : h + (n - h) ≡ n = omega arith in
        rw q at (rewritten-second u v w _ _ low h (n - h) first.0 second.0)

    run-left : run w low a ≡ ordered name (run u low h)
    run-left = ap (λ (k : ℕ). run w low k) first.1 ∙ both.is

    run-right : run w (low + h) b ≡ ordered name (run u (low + h) (n - h))
    run-right = ap (λ (k : ℕ). run w (low + h) k) second.1 ∙ second.0.is ∙ ap (ordered name) run-still

    merged-is : insert_all name (run w low a) (run w (low + h) b) ≡ ordered name (run u low n)
    merged-is =
        let q : h + (n - h) ≡ n = omega arith in
        rw (run-left, run-right)
        (sym (ordered-append name (run u low h) (run u (low + h) (n - h)))
        ∙ ap (ordered name) (sym (run-split u low h (n - h)) ∙ ap (run u low) q))

    -- what merge asks
    pub parts-to-merge : (m : ℕ) → n ≤ m → (P : ℕ → Type 0) → Each P (run u low n)
        → (low + a ≤ length w) × (low + h + b ≤ length w) × (a + b ≤ m) × Rising name (run w low a) × Rising name (run w (low + h) b)
        × Each P (run w low a) × Each P (run w (low + h) b)
    parts-to-merge m k P e = (
      omega (arith, few-left, size),
      omega (arith, few-right, size),
      omega (arith, few-left, few-right),
      rw run-left (rising-ordered name (run u low h)),
      rw run-right (rising-ordered name (run u (low + h) (n - h))),
      rw run-left (each-ordered name P (run u low h) (each_part P u low n low h fits (omega arith) (omega arith) e)),
      rw run-right (each-ordered name P (run u (low + h) (n - h)) (each_part P u low n (low + h) (n - h) fits (omega arith) (omega arith) e)),
    )

    -- what is copied back
    pub sorted-whole : (m z : List ℕ) (r : ℕ) → run m 0 r ≡ insert_all name (run w low a) (run w (low + h) b) → r ≤ a + b → n ≤ length m
        → Rewritten w low r (run m 0 r) z → Sorted name u low n z r
    sorted-whole m z r e l k c =
        let q : run m 0 r ≡ ordered name (run u low n) = e ∙ merged-is in (
          rewritten-over u w z _ _ low n r (omega (arith, few-left, few-right)) both (rw q at c),
          sym (length-take-le r m (omega (arith, few-left, few-right))) ∙ ap length q,
        )
