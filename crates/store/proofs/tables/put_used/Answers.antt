use native.Mathlib.Omega.{arith}
use lib.ListN.{length-set}
use Rattle.store.proofs.tables.put_used.Goals as goal

pub bounds-s-11 : goal.bounds-s-11
bounds-s-11 c = simp length-set (omega arith)

pub bounds-s-13 : goal.bounds-s-13
bounds-s-13 c = simp length-set (omega arith)

pub bounds-s-14 : goal.bounds-s-14
bounds-s-14 c = simp length-set (omega arith)

pub shape_of-s : goal.shape_of-s
shape_of-s c = simp length-set
