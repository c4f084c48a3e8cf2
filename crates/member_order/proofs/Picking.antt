-- The next word of two rising runs, by how their first words lie.
use mathlib.Core.Path.{◌≡◌}
use mathlib.Core.Bool.{true}
use mathlib.Core.List.{List, ◌∷◌}
use Prim.Native.Nat.{ℕ, ◌+◌, ◌≤◌, ◌<◌}
use native.Mathlib.Omega.{arith}
use lib.ListN.{length, drop, get_or}
use Rattle.json_text.specs.Content.{before}
use Rattle.std.specs.declared.cmp.Ordering.{Ordering}
use Rattle.member_order.specs.declared.sort.Picked.{Picked}
use Rattle.member_order.specs.Names.{order_of}
use Rattle.member_order.specs.Order.{insert_all, run, pick_by, Picks, Rising}
use Rattle.member_order.proofs.Before.{Says, order-says}
use Rattle.member_order.proofs.Merging.{rising-drop, merge-alone, merge-before, merge-after, merge-same}
use Rattle.member_order.proofs.Runs.{length_run, run-next, run_end}

module _ (name : ℕ → List ℕ) (w : List ℕ) (low a middle b : ℕ) (left : low + a ≤ length w) (right : middle + b ≤ length w) where
  pub picks-right : (i j : ℕ) → i ≡ a → j < b → Picks name (run w low a) (run w middle b) i j (record { word = get_or w (middle + j) 0; i = i; j = j + 1 })
  unfolding insert_all
  picks-right i j h l =
      let la = length_run w low a left in
      let lb = length_run w middle b right in
      (rw (run_end w low a left i (omega arith), run-next w middle b right j l), omega arith, omega arith, omega arith, omega arith, omega arith)

  module _ (up : Rising name (run w low a)) where
    pub picks-left : (i j : ℕ) → i < a → j ≡ b → Picks name (run w low a) (run w middle b) i j (record { word = get_or w (low + i) 0; i = i + 1; j = j })
    picks-left i j h l =
        let la = length_run w low a left in
        let lb = length_run w middle b right in (
          rw (run_end w middle b right j (omega arith), run-next w low a left i h)
              (merge-alone name (get_or w (low + i) 0) (drop (i + 1) (run w low a)) (rw (run-next w low a left i h) at (rising-drop name (run w low a) i up))),
          omega arith,
          omega arith,
          omega arith,
          omega arith,
          omega arith,
        )

    module _ (up₂ : Rising name (run w middle b)) (i j : ℕ) (h : i < a) (l : j < b) where
      here : Rising name (get_or w (low + i) 0 ∷ drop (i + 1) (run w low a))
      here = rw (run-next w low a left i h) at (rising-drop name (run w low a) i up)

      there : Rising name (get_or w (middle + j) 0 ∷ drop (j + 1) (run w middle b))
      there = rw (run-next w middle b right j l) at (rising-drop name (run w middle b) j up₂)

      picks-before : before (name (get_or w (low + i) 0)) (name (get_or w (middle + j) 0)) ≡ true
          → Picks name (run w low a) (run w middle b) i j (record { word = get_or w (low + i) 0; i = i + 1; j = j })
      picks-before q =
          let la = length_run w low a left in
          let lb = length_run w middle b right in (
            rw (run-next w low a left i h, run-next w middle b right j l) (merge-before name _ _ _ _ here there q),
            omega arith,
            omega arith,
            omega arith,
            omega arith,
            omega arith,
          )

      picks-after : before (name (get_or w (middle + j) 0)) (name (get_or w (low + i) 0)) ≡ true
          → Picks name (run w low a) (run w middle b) i j (record { word = get_or w (middle + j) 0; i = i; j = j + 1 })
      picks-after q =
          let la = length_run w low a left in
          let lb = length_run w middle b right in (
            rw (run-next w low a left i h, run-next w middle b right j l) (merge-after name _ _ _ _ here there q),
            omega arith,
            omega arith,
            omega arith,
            omega arith,
            omega arith,
          )

      picks-same : name (get_or w (low + i) 0) ≡ name (get_or w (middle + j) 0)
          → Picks name (run w low a) (run w middle b) i j (record { word = get_or w (middle + j) 0; i = i + 1; j = j + 1 })
      picks-same q =
          let la = length_run w low a left in
          let lb = length_run w middle b right in (
            rw (run-next w low a left i h, run-next w middle b right j l) (merge-same name _ _ _ _ here there q),
            omega arith,
            omega arith,
            omega arith,
            omega arith,
            omega arith,
          )

      picks-said : (o : Ordering) → Says (name (get_or w (low + i) 0)) (name (get_or w (middle + j) 0)) o
          → Picks name (run w low a) (run w middle b) i j (pick_by o (get_or w (low + i) 0) (get_or w (middle + j) 0) i j)
      picks-said Ordering.Less q = picks-before q
      picks-said Ordering.Equal q = picks-same q
      picks-said Ordering.Greater q = picks-after q

      pub picks_by :
          (p : Picked) →
          p ≡ pick_by (order_of (name (get_or w (low + i) 0)) (name (get_or w (middle + j) 0))) (get_or w (low + i) 0) (get_or w (middle + j) 0) i j →
          Picks name (run w low a) (run w middle b) i j p
      picks_by p e =
          let x = name (get_or w (low + i) 0) in
          let y = name (get_or w (middle + j) 0) in
          rw e (picks-said (order_of x y) (order-says x y))
