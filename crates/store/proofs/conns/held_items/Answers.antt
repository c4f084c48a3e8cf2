use Prim.Native.Nat.{◌-◌}
use native.Mathlib.Omega.{arith}
use Rattle.store.proofs.ConnLaws.{held-from, held-end}
use Rattle.store.proofs.conns.held_items.Goals as goal

pub loop-i-init : goal.loop-i-init
loop-i-init c = omega arith

pub overflow_add-held : goal.overflow_add-held
overflow_add-held c =
    let q = held-from c.args.s.now c.loop-i.i (omega arith) _ c.line_at.ensures _ c.held-held.ensures in
    omega arith

pub loop-i-preserved : goal.loop-i-preserved
loop-i-preserved c =
    let q = held-from c.args.s.now c.loop-i.i (omega arith) _ c.line_at.ensures _ c.held-held.ensures in
    omega arith

pub returns : goal.returns
returns c =
    let q = held-end c.args.s.now c.loop-i.i (omega arith) in
    omega arith
