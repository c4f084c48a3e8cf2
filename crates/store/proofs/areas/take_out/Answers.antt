use mathlib.Core.Path.{refl}
use Prim.Native.Nat.{◌-◌}
use native.Mathlib.Omega.{arith}
use lib.ListN.{length-set}
use Rattle.store.proofs.AreaSteps.{closing-start, closing-ready, closing-more, closing-done}
use Rattle.store.proofs.areas.take_out.Goals as goal

pub loop-j-init : goal.loop-j-init
loop-j-init c = closing-start _ _ c.requires _ c.line_start-a.ensures

pub overflow_add-a : goal.overflow_add-a
overflow_add-a c =
    let l = c.loop-j in
    let r = closing-ready _ _ c.requires _ _ _ l.invariant (omega arith) in
    omega (arith, r.target, l.invariant.size)

pub overflow_add-a-in-loop-j : goal.overflow_add-a-in-loop-j
overflow_add-a-in-loop-j c =
    let l = c.loop-j in
    let r = closing-ready _ _ c.requires _ _ _ l.invariant (omega arith) in
    omega (arith, r.target, l.invariant.size)

pub copy-requires : goal.copy-requires
copy-requires c =
    let l = c.loop-j in
    closing-ready _ _ c.requires _ _ _ l.invariant (omega arith)

pub loop-j-preserved : goal.loop-j-preserved
loop-j-preserved c =
    let l = c.loop-j in
    closing-more _ _ c.requires _ _ _ l.invariant (omega arith) _ c.copy.ensures _ _ refl (omega arith)

pub bounds-s-9-2 : goal.bounds-s-9-2
bounds-s-9-2 c =
    omega (arith, c.loop-j.invariant.size, c.requires.lined.sized.header)

pub shape_of-s : goal.shape_of-s
shape_of-s c = simp length-set c.loop-j.invariant.size

pub returns : goal.returns
returns c =
    closing-done _ _ c.requires _ _ _ _ c.loop-j.invariant refl (omega arith)
