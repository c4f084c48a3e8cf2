use native.Mathlib.Omega.{arith}
use Rattle.prints.proofs.Staying.{key-stays, key-goes}
use Rattle.prints.proofs.expiry.keep_keys.Goals as goal
use Rattle.prints.proofs.expiry.keep_keys.Goals.{then-fresh, else-fresh}

pub loop-i-preserved : goal.loop-i-preserved
loop-i-preserved c =
    elim c.if-fresh.branch [
      | then-fresh w ↦
          rw (w.area-is, w.j-is)
          (key-stays _ _ _ _ _ _ c.loop-i.invariant (omega arith) _ c.fresh.ensures _ w.if-fresh.true w.copy_row.auto.t w.copy_row.ensures)
      | else-fresh w ↦
          rw (w.area-is, w.j-is) (key-goes _ _ _ _ _ _ c.loop-i.invariant (omega arith) _ c.fresh.ensures w.if-fresh.false)
    ]
