use native.Mathlib.Omega.{arith}
use Rattle.rows.specs.Rows.{row_at}
use Rattle.rows.proofs.Settling.{settle-done}
use Rattle.rows.proofs.tables.settle.Goals as goal

pub returns : goal.returns
unfolding row_at
returns c =
    settle-done _ _ _ _ _ _ _ _ _ (omega arith) c.lower-at.ensures c.shift.ensures c.put_row.ensures
