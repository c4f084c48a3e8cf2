-- A search by halving: what stands left of the low end and at the high end.
use mathlib.Core.Path.{◌≡◌, sym, ◌∙◌, subst}
use mathlib.Core.Bool.{Bool, true, false}
use Prim.Native.Nat.{ℕ, ◌+◌, ◌-◌, ◌*◌, ◌≤◌, ◌<◌}
use mathlib.Core.List.{List}
use lib.ListN.{get_or}
use native.Mathlib.Omega.{arith}
use Rattle.rows.specs.Rows.{Row, row_at, row_in, below, alike, Here, LooksFrom, Lower, Between, Located}
use Rattle.std.specs.Prelude.{Result, Ok, Err}

pub record Bracket (three : Bool) (f : ℕ → Row) (n x y z lo hi : ℕ) : Type 0 where
  pub order : lo ≤ hi
  pub high : hi ≤ n
  pub left : 0 < lo → below three (f (lo - 1)) x y z ≡ true
  pub right : hi < n → below three (f hi) x y z ≡ false

module _ (three : Bool) (f : ℕ → Row) (n x y z : ℕ) where
  -- i rows are below, and row i is not
  pub lower-here : (i : ℕ) → i ≤ n → (0 < i → below three (f (i - 1)) x y z ≡ true) → (r : Bool) → r ≡ below three (f i) x y z → r ≡ false → Lower three f n x y z i
  lower-here i h l r a t = record { within = h; left = l; right = λ m. sym a ∙ t }

  -- what stands at the place found
  module _ (i : ℕ) (l : Lower three f n x y z i) where
    lower-gap : (i < n → alike three (f i) x y z ≡ false) → Between three f n x y z i
    lower-gap m = record { within = l.within; left = l.left; right = l.right; miss = m }

    pub lower-other : (r : Bool) → r ≡ alike three (f i) x y z → r ≡ false → Between three f n x y z i
    lower-other r a t = lower-gap (λ m. sym a ∙ t)

-- what a place says
pub found : {three : Bool} {f : ℕ → Row} {n x y z i : ℕ} {p : Result ℕ ℕ} → Located three f n x y z p → p ≡ Ok i → Here three f n x y z i
found {three} {f} {n} {x} {y} {z} l e = subst (Located three f n x y z) e l

pub missed : {three : Bool} {f : ℕ → Row} {n x y z i : ℕ} {p : Result ℕ ℕ} → Located three f n x y z p → p ≡ Err i → Between three f n x y z i
missed {three} {f} {n} {x} {y} {z} l e = subst (Located three f n x y z) e l

-- the rows up to p have first words below x
pub looks-from : (b : ℕ) (w : List ℕ) (n x p i m : ℕ) → i ≡ p + 1 → i + m ≤ n → get_or w (4 * (b + p)) 0 < x → LooksFrom (row_in b w) n x i m
unfolding row_at
looks-from b w n x p i m e h l = record { within = h; left = λ z. let q : i - 1 ≡ p = omega arith in rw q l }
