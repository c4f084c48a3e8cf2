use Prim.Native.Nat.{◌<◌}
use native.Mathlib.Omega.{arith}
use Rattle.prints.proofs.Staying.{count-passes, count-stays, count-goes, key_left}
use Rattle.prints.proofs.expiry.keep_counts.Goals as goal
use Rattle.prints.proofs.expiry.keep_counts.Goals.{then-fresh, else-fresh}

pub loop-k-preserved : goal.loop-k-preserved
loop-k-preserved c =
    count-passes _ _ _ _ _ _ _ _ _ c.loop-k.invariant c.requires.tables_sound c.requires.n_le_c (omega arith) _ c.owns.ensures c.loop-k-test.true

pub owns-requires : goal.owns-requires
owns-requires c = let h = (let left_is : c.loop-k.k < c.args.n = key_left _ _ _ _ _ _ _ _ _ c.loop-k.invariant c.requires.tables_sound c.requires.n_le_c (omega arith) in left_is) in let p = c.requires.n_le_c in omega (arith, p.0, p.1, c.loop-k.invariant.size)

pub fresh-requires : goal.fresh-requires
fresh-requires c =
    let h = (let left_is : c.loop-k.k < c.args.n = key_left _ _ _ _ _ _ _ _ _ c.loop-k.invariant c.requires.tables_sound c.requires.n_le_c (omega arith) in left_is) in
    let p = c.requires.n_le_c in
    omega (arith, p.0, p.1, c.loop-k.invariant.size)

pub overflow_add-k : goal.overflow_add-k
overflow_add-k c = let h = (let left_is : c.loop-k.k < c.args.n = key_left _ _ _ _ _ _ _ _ _ c.loop-k.invariant c.requires.tables_sound c.requires.n_le_c (omega arith) in left_is) in omega arith

pub loop-k-smaller : goal.loop-k-smaller
loop-k-smaller c = let h = (let left_is : c.loop-k.k < c.args.n = key_left _ _ _ _ _ _ _ _ _ c.loop-k.invariant c.requires.tables_sound c.requires.n_le_c (omega arith) in left_is) in omega arith

pub loop-i-preserved : goal.loop-i-preserved
loop-i-preserved c =
    elim c.if-fresh.branch [
      | then-fresh w ↦
          rw (w.area-is, w.j-is)
          (count-stays _ _ _ _ _ _ _ _ _ c.loop-k.invariant c.requires.tables_sound c.requires.n_le_c (omega arith) _ c.owns.ensures c.loop-k-test.false
          _ c.fresh.ensures _ w.if-fresh.true w.copy_row.auto.t w.copy_row.ensures)
      | else-fresh w ↦
          rw (w.area-is, w.j-is)
          (count-goes _ _ _ _ _ _ _ _ _ c.loop-k.invariant c.requires.tables_sound c.requires.n_le_c (omega arith) _ c.owns.ensures c.loop-k-test.false
          _ c.fresh.ensures w.if-fresh.false)
    ]
