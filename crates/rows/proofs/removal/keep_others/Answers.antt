use native.Mathlib.Omega.{arith}
use Rattle.rows.proofs.Removing.{row_goes, row-moves, row_stays}
use Rattle.rows.proofs.removal.keep_others.Goals as goal
use Rattle.rows.proofs.removal.keep_others.Goals.{then-t-from, then-to-j, else-to-j, else-t-from}

pub loop-i-preserved : goal.loop-i-preserved
loop-i-preserved c =
    elim c.if-t-from.branch [
      | then-t-from w ↦
          elim w.if-to-j.branch [
            | then-to-j v ↦
                rw (w.t-is, w.j-is, v.t-is)
                (row-moves _ _ _ _ _ _ _ _ c.loop-i.invariant (omega arith) c.requires.0 w.if-t-from.true _ v.copy_row.auto.t v.copy_row.ensures)
            | else-to-j v ↦
                rw (w.t-is, w.j-is, v.t-is)
                (row_stays _ _ _ _ _ _ _ _ c.loop-i.invariant (omega arith) c.requires.0 w.if-t-from.true (omega arith))
          ]
      | else-t-from w ↦ rw (w.t-is, w.j-is) (row_goes _ _ _ _ _ _ _ _ c.loop-i.invariant (omega arith) w.if-t-from.false)
    ]
