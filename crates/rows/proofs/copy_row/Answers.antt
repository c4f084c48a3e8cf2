use Rattle.rows.specs.Rows.{row_at}
use Rattle.rows.proofs.copy_row.Goals as goal

pub returns : goal.returns
unfolding row_at
returns c = c.put_row.ensures
