use native.Mathlib.Omega.{arith}
use Rattle.rows.proofs.Adding.{add-few, add-many}
use Rattle.rows.proofs.tables.add.Goals as goal

pub returns-then-u-most_new : goal.returns-then-u-most_new
returns-then-u-most_new c =
    add-few _ _ _ _ _ _ _ _ _ _ c.requires.table.0 c.requires.missing (omega arith) _ c.shift.ensures c.put_row.ensures

pub returns : goal.returns
returns c =
    add-many _ _ _ _ _ _ _ _ _ _ c.join.ensures c.put_row-2.ensures
