use mathlib.Core.Path.{◌≡◌}
use Prim.Native.Nat.{ℕ}
use lib.ListN.{length}
use Rattle.rules.specs.Lines as Rules
use Rattle.store.specs.ConnMoves.{LineAt}
use Rattle.line_list.specs.Change.{Makes}
use Rattle.line_list.proofs.EachLaws.{Partly}
use Rattle.line_list.proofs.change_each.Given as goal

abbrev pub invariant-loop-i : goal.invariant-loop-i
invariant-loop-i g l = (length l.s ≡ length l.initial.s)
    × (((k : ℕ) → LineAt l.initial.s k → LineAt l.s k)
    × ((f : Rules.Line → Rules.Line) → Makes (goal.F-post g l.change) f → Partly f l.initial.s l.i l.s))
