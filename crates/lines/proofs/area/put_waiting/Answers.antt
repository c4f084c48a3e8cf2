use mathlib.Core.Path.{sym, subst, ◌∙◌}
use Prim.Native.Nat.{ℕ, ◌≤◌}
use native.Mathlib.Omega.{arith}
use lib.ListN.{length-set}
use Rattle.lines.proofs.AreaLaws.{named-size, waiting-done}
use Rattle.lines.proofs.area.put_waiting.Goals as goal

pub bounds-area-10 : goal.bounds-area-10
bounds-area-10 c = omega (arith, length-set c.args.area.now 0 c.args.conn, c.requires)

pub set_prints-requires : goal.set_prints-requires
set_prints-requires c =
    subst (λ (n : ℕ). 32 ≤ n) (sym (c.set_line.auto.area ∙ named-size c.args.area.now c.args.conn _)) c.requires

pub shape_of-area : goal.shape_of-area
shape_of-area c =
    let a = c.args in
    c.set_prints.auto.area ∙ c.set_line.auto.area ∙ named-size a.area.now a.conn _

pub returns : goal.returns
returns c =
    waiting-done c.args.area.now c.args.conn c.args.limit c.args.t c.waiting.result
    c.requires c.waiting.ensures _ _ c.set_line.ensures c.set_prints.ensures
