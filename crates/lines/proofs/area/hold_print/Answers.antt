use native.Mathlib.Omega.{arith}
use Rattle.lines.proofs.AreaLaws.{hold-print-done}
use Rattle.lines.proofs.area.hold_print.Goals as goal

pub returns : goal.returns
returns c = let p = c.put_print in hold-print-done _ _ c.requires.0.size _ _ _ (let k = p.auto.prints in omega arith) (rw c.prints_held-n.ensures at p.ensures) _ (rw c.prints_held-n.ensures at c.set_prints.ensures)
