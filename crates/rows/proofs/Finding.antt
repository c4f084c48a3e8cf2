-- A row of one of both runs, among all of a table.
use mathlib.Core.List.{List}
use mathlib.Core.Bool.{Bool}
use Prim.Native.Nat.{ℕ, ◌+◌}
use native.Mathlib.Nat.{add_assoc}
use native.Mathlib.Omega.{arith}
use Rattle.rows.specs.Rows.{row_in, Here}
use Rattle.rows.specs.Tables.{size}
use Rattle.rows.specs.declared.Runs.{Runs}

module _ (three : Bool) (b : ℕ) (u : Runs) (w : List ℕ) (x y z : ℕ) (i : ℕ) where
  pub here-old : Here three (row_in b w) u.old x y z i → Here three (row_in b w) (size u) x y z i
  here-old h = record { within = omega (arith, h.within); hit = h.hit }

  pub here-new : Here three (row_in (b + u.old) w) u.new x y z i → Here three (row_in b w) (size u) x y z (u.old + i)
  here-new h = record { within = omega (arith, h.within); hit = rw (← add_assoc) h.hit }
