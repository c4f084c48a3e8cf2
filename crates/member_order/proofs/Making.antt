-- Elements of a list turned one by one.
use mathlib.Core.Path.{◌≡◌, refl, sym, ◌∙◌, ap}
use mathlib.Core.List.{List}
use Prim.Native.Nat.{ℕ, ◌+◌, ◌<◌}
use native.Mathlib.Omega.{arith}
use borrow.Author.Count.{below_more}
use lib.ListN.{length, get_or, set, length-set}
use lib.Seq.{take-set-le, drop-set-lt, get_or-set_same, get_or-set_other, get_or-drop}
use Rattle.member_order.specs.Codes.{Made}
use Rattle.member_order.proofs.Rewriting.{drop_more}

module _ (R : ℕ → ℕ → Type 0) (v : List ℕ) (from : ℕ) where
  pub made_none : Made R v from 0 v
  made_none = record { size = refl; each = λ i h. absurd (omega arith); below = refl; above = refl }

  module _ (i : ℕ) (w : List ℕ) (m : Made R v from i w) where
    -- what is not turned yet stands there
    pub made-here : get_or w (from + i) 0 ≡ get_or v (from + i) 0
    made-here =
        let z : from + i + 0 ≡ from + i = omega arith in
        rw z at
        (sym (get_or-drop (from + i) w 0 0) ∙ ap (λ (l : List ℕ). get_or l 0 0) m.above ∙ get_or-drop (from + i) v 0 0)

    pub made_more : (x : ℕ) → from + i < length w → R (get_or v (from + i) 0) x → Made R v from (i + 1) (set w (from + i) x)
    made_more x l r =
        record {
          size = length-set w (from + i) x ∙ m.size;
          each =
              below_more _ i
              (λ k h. rw (get_or-set_other w (from + i) (from + k) x 0 (λ e. omega arith)) (m.each k h))
              (rw (get_or-set_same w (from + i) x 0 l) r);
          below = take-set-le from w (from + i) x (omega arith) ∙ m.below;
          above =
              drop-set-lt (from + (i + 1)) w (from + i) x (omega arith)
              ∙ drop_more v w (from + i) (from + (i + 1)) (omega arith) m.above;
        }
