-- Where a line's area lies, lists by place, and what a line that is put in asks.
use Rattle.std.specs.Prelude.{◌≡◌, List, [], ◌∷◌, ℕ, zero, suc, ◌+◌, ◌≤◌, ◌<◌, length}
use Rattle.store.specs.Store.{limits_of, line_count, line_width, line_start}
use Rattle.store.specs.ConnMoves.{Lined}

-- a is where the i-th line's area starts, inside the store
pub record Starts (w : List ℕ) (i a : ℕ) : Type 0 where
  pub start : a ≡ line_start (limits_of w) i
  pub inside : a ≤ length w

-- and e where it ends
pub record Ends (w : List ℕ) (i e : ℕ) : Type 0 where
  pub end : e ≡ line_start (limits_of w) i + line_width (limits_of w)
  pub inside : e ≤ length w

module _ {A : Type 0} where
  -- all but the i-th
  unfoldable pub without : ℕ → List A → List A
  without i [] = []
  without zero (x ∷ xs) = xs
  without (suc i) (x ∷ xs) = x ∷ without i xs

  -- a, in front of the i-th
  unfoldable pub inserted : ℕ → A → List A → List A
  inserted zero a l = a ∷ l
  inserted (suc i) a [] = a ∷ []
  inserted (suc i) a (x ∷ xs) = x ∷ inserted i a xs

-- a line more can stand at place i
pub record Room (w : List ℕ) (i : ℕ) : Type 0 where
  pub lined : Lined w
  pub here : i ≤ line_count w
  pub room : line_count w < (limits_of w).L
