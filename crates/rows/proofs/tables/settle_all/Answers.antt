use native.Mathlib.Omega.{arith}
use mathlib.Core.Path.{◌≡◌}
use Prim.Native.Nat.{◌+◌, ◌-◌}
use Rattle.rows.specs.Tables.{table_of}
use Rattle.rows.proofs.Settling.{settling-more, settling-stop}
use Rattle.rows.proofs.tables.settle_all.Goals as goal

pub loop-j-preserved : goal.loop-j-preserved
unfolding table_of
loop-j-preserved c =
    let d = c.settle-i in
    let q : c.loop-j.j - 1 + 1 ≡ c.loop-j.j = omega arith in
    settling-more _ _ _ _ _ c.requires.table.rises _ c.requires.u_in_bounds.1 _ _ _ _ _ c.loop-j.invariant (omega arith) d.auto.t (rw q at d.ensures)

pub returns : goal.returns
returns c = settling-stop _ _ _ _ _ _ _ c.loop-j.invariant (omega arith)
