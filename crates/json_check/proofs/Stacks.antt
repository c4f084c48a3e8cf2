-- The open brackets as a stack, the innermost first.
use mathlib.Core.Path.{◌≡◌, ◌∙◌}
use mathlib.Core.Bool.{Bool, false}
use mathlib.Core.List.{List, ◌∷◌, reverse-append}
use Prim.Native.Nat.{ℕ, zero, suc, ◌+◌, ◌-◌, ◌≤◌, ◌<◌}
use native.Mathlib.Numerals.{add-one}
use native.Mathlib.Omega.{arith}
use lib.ListN.{length, take, set, get_or, length-reverse}
use lib.Seq.{take-suc, take-suc-set, length-take-le}
use Rattle.json_check.specs.Steps.{stack}

module _ (opened : List Bool) where
  -- one more bracket
  pub stack_push : (d : ℕ) (b : Bool) → d < length opened → stack (set opened d b) (d + 1) ≡ b ∷ stack opened d
  stack_push d b h = rw (add-one, take-suc-set opened d b h, reverse-append)

  pub stack-suc : (d : ℕ) → d < length opened → stack opened (suc d) ≡ get_or opened d false ∷ stack opened d
  stack-suc d h = rw (take-suc opened d false h, reverse-append)

  pub stack-length : (d : ℕ) → d ≤ length opened → length (stack opened d) ≡ d
  stack-length d h = length-reverse (take d opened) ∙ length-take-le d opened h

  -- the innermost bracket, and the others
  pub stack_top : (d : ℕ) → 0 < d → d ≤ length opened → stack opened d ≡ get_or opened (d - 1) false ∷ stack opened (d - 1)
  stack_top zero p h = absurd (omega arith)
  stack_top (suc d) p h = let q : suc d - 1 ≡ d = omega arith in rw q (stack-suc d h)

  -- the brackets behind the innermost
  pub stack-pop :
      (d : ℕ) (b : Bool) (k : List Bool) → 0 < d → d ≤ length opened → stack opened d ≡ b ∷ k → stack opened (d - 1) ≡ k
  stack-pop d b k p h e = let f = stack_top d p h in cc
