-- Laws of the log.
use mathlib.Core.List.{List, [], ◌∷◌}
use Prim.Native.Nat.{ℕ, suc, ◌≤◌}
use native.Mathlib.Omega.{arith}
use lib.Dec.{ltb}
use lib.ListN.{length}
use Rattle.rules.specs.Quantities.{Key, age, log_keep}
use Rattle.rules.specs.Log.{old}
use Rattle.rules.proofs.Tests.{by_cond}

pub old-le : (now : ℕ) (es : List (Key × ℕ)) → old now es ≤ length es
unfolding old
old-le now [] = omega arith
old-le now (e ∷ es) = let h = old-le now es in by_cond (λ n. n ≤ suc (length es)) (ltb log_keep (age now e.1)) (λ q. omega arith) (λ q. omega arith)
