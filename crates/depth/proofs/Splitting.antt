-- Levels taken apart into prices and sizes, and put together, one place after the other.
use mathlib.Core.Path.{◌≡◌, sym, ◌∙◌}
use mathlib.Core.Logic.{⊎_elim}
use mathlib.Core.List.{List}
use Prim.Native.Nat.{ℕ, ◌+◌, ◌-◌, ◌<◌, ◌≤◌}
use native.Mathlib.Omega.{arith}
use lib.ListN.{length, get_or, set}
use lib.Seq.{get_or-set_same, get_or-set_other}
use lib.Ieee.{Float, nan}
use Rattle.words.proofs.Cases.{below_or}
use Rattle.levels.specs.declared.Level.{Level}
use Rattle.levels.specs.Work.{level_in}
use Rattle.levels.proofs.Shifts.{same-level}
use Rattle.depth.specs.Value.{blank, Split}

module _ (ls : List Level) (count : ℕ) (prices : List ℕ) (sizes : List Float) (n : ℕ) (s : Split ls count prices sizes n) where
  abbrev here : Level
  here = get_or ls (count - 1 - n) blank

  pub split-more : n < length prices → n < length sizes → Split ls count (set prices n here.price) (set sizes n here.size) (n + 1)
  split-more h k i l =
      ⊎_elim
      (λ b. same-level (get_or-set_other prices n i here.price 0 (omega arith)) (get_or-set_other sizes n i here.size nan (omega arith)) ∙ s i b)
      (λ b.
      let q : i ≡ n = omega arith in
      rw q (same-level (get_or-set_same prices n here.price 0 h) (get_or-set_same sizes n here.size nan k)))
      (below_or i n)

  pub join_more : n < count → count ≤ length ls → Split (set ls (count - 1 - n) (level_in prices sizes n)) count prices sizes (n + 1)
  join_more h k i l =
      ⊎_elim
      (λ b. s i b ∙ sym (get_or-set_other ls (count - 1 - n) (count - 1 - i) (level_in prices sizes n) blank (omega arith)))
      (λ b. let q : i ≡ n = omega arith in rw q (sym (get_or-set_same ls (count - 1 - n) (level_in prices sizes n) blank (omega arith))))
      (below_or i n)
