use native.Mathlib.Omega.{arith}
use Prim.Native.Nat.{◌+◌, ◌-◌, ◌/◌}
use Rattle.rows.proofs.Search.{looks-from}
use Rattle.rows.proofs.first_below.Goals as goal
use Rattle.rows.proofs.first_below.Goals.{then-t-b, else-t-b}

pub loop-len-preserved : goal.loop-len-preserved
loop-len-preserved c =
    let s = c.args in
    let h = c.loop-len.invariant.within in
    elim c.if-t-b.branch [
      | then-t-b w ↦
          rw w.lo-is
          (looks-from s.b s.t.now s.n s.x (c.loop-len.lo + c.loop-len.len / 2 - 1) _ _ (omega arith) (omega arith) w.if-t-b.true)
      | else-t-b w ↦ rw w.lo-is (record { within = omega arith; left = c.loop-len.invariant.left })
    ]
