use native.Mathlib.Omega.{arith}
use Rattle.rows.proofs.Moves.{put_whole}
use Rattle.rows.proofs.put_row.Goals as goal

pub returns : goal.returns
returns c = put_whole _ _ _ _ _ _ _ (omega arith) c.copy_from_slice.ensures.after
