-- Two words put in order.
use mathlib.Core.Path.{◌≡◌, refl, ◌∙◌, ap}
use mathlib.Core.Bool.{cond}
use mathlib.Core.List.{List, [], ◌∷◌}
use Prim.Native.Nat.{ℕ, ◌+◌, ◌≤◌}
use native.Mathlib.Nat.{add-zero}
use native.Mathlib.Omega.{arith}
use lib.Dec.{eqb}
use lib.ListN.{length, get_or, set, length-set}
use Rattle.std.specs.declared.cmp.Ordering.{Ordering}
use Rattle.member_order.specs.declared.sort.Picked.{Picked}
use Rattle.member_order.specs.Names.{order_of}
use Rattle.member_order.specs.Order.{insert, insert_all, ordered, run, pick_by, Rewritten}
use Rattle.member_order.proofs.Before.{Says, order-says}
use Rattle.member_order.proofs.Insert.{insert-first, insert-later, insert-same}
use Rattle.member_order.proofs.Rewriting.{drop_more, copied_none, copied_more}
use Rattle.member_order.proofs.Runs.{run-next, run_end}
use Rattle.member_order.proofs.Sorting.{Sorted}

module _ (u : List ℕ) (low : ℕ) (fits : low + 2 ≤ length u) where
  -- ---- what is written over them
  one-copied : (a b : ℕ) → Rewritten u low 1 (a ∷ []) (set u low a)
  one-copied a b = rw add-zero at (copied_more u (a ∷ b ∷ []) u low 0 (copied_none u (a ∷ b ∷ []) low) (omega arith) (omega arith))

  rewritten-one : (a : ℕ) → Rewritten u low 2 (a ∷ []) (set u low a)
  rewritten-one a =
      let r = one-copied a a in
      record {
        size = r.size;
        few = omega arith;
        is = r.is;
        below = r.below;
        above = drop_more u (set u low a) (low + 1) (low + 2) (omega arith) r.above;
      }

  rewritten-two : (a b : ℕ) → Rewritten u low 2 (a ∷ b ∷ []) (set (set u low a) (low + 1) b)
  rewritten-two a b =
      copied_more u (a ∷ b ∷ []) (set u low a) low 1 (one-copied a b) (omega arith) (omega (arith, length-set u low a))

  -- ---- the two in order
  run-two : run u low 2 ≡ get_or u low 0 ∷ get_or u (low + 1) 0 ∷ []
  run-two =
      rw add-zero at (run-next u low 2 fits 0 (omega arith))
      ∙ ap (λ (l : List ℕ). get_or u low 0 ∷ l) (run-next u low 2 fits 1 (omega arith)
      ∙ ap (λ (l : List ℕ). get_or u (low + 1) 0 ∷ l) (run_end u low 2 fits 2 (omega arith)))

  module _ (name : ℕ → List ℕ) where
    -- what is left and where, after a word was picked
    abbrev Left : Picked → Type 0
    Left p =
        (p.i ≡ p.j → Sorted name u low 2 (set u low p.word) 1)
        × ((p.i ≡ p.j → ⊥) → (z : ℕ) → z ≡ cond (eqb p.i 1) (get_or u (low + 1) 0) (get_or u low 0)
        → Sorted name u low 2 (set (set u low p.word) (low + 1) z) 2)

    left_by : (o : Ordering) → Says (name (get_or u low 0)) (name (get_or u (low + 1) 0)) o → Left (pick_by o (get_or u low 0) (get_or u (low + 1) 0) 0 0)
    unfolding insert insert_all
    left_by Ordering.Less q =
        let e : ordered name (run u low 2) ≡ get_or u low 0 ∷ get_or u (low + 1) 0 ∷ [] = ap (ordered name) run-two ∙ insert-first name _ _ [] q in
        (λ h. absurd (omega arith), λ h z k. rw (e, k) (rewritten-two (get_or u low 0) (get_or u (low + 1) 0), refl))
    left_by Ordering.Equal q =
        let e : ordered name (run u low 2) ≡ get_or u (low + 1) 0 ∷ [] = ap (ordered name) run-two ∙ insert-same name _ _ [] q in
        (λ h. rw e (rewritten-one (get_or u (low + 1) 0), refl), λ h. absurd (h refl))
    left_by Ordering.Greater q =
        let e : ordered name (run u low 2) ≡ get_or u (low + 1) 0 ∷ get_or u low 0 ∷ [] = ap (ordered name) run-two ∙ insert-later name _ _ [] q in
        (λ h. absurd (omega arith), λ h z k. rw (e, k) (rewritten-two (get_or u (low + 1) 0) (get_or u low 0), refl))

    pub pair_left :
        (p : Picked) → p ≡ pick_by (order_of (name (get_or u low 0)) (name (get_or u (low + 1) 0))) (get_or u low 0) (get_or u (low + 1) 0) 0 0 → Left p
    pair_left p e =
        let x = name (get_or u low 0) in
        let y = name (get_or u (low + 1) 0) in
        rw e (left_by (order_of x y) (order-says x y))
