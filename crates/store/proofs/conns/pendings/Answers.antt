use Prim.Native.Nat.{◌-◌}
use native.Mathlib.Omega.{arith}
use Rattle.rules.specs.Entering.{pendings}
use Rattle.store.proofs.ConnLaws.{pending-here, pending-over, pending-end, pendings-fit}
use Rattle.store.proofs.conns.pendings.Goals as goal
use Rattle.store.proofs.conns.pendings.Goals.{then-pending, else-pending}

pub loop-i-init : goal.loop-i-init
loop-i-init c = omega arith

pub overflow_add-pending : goal.overflow_add-pending
overflow_add-pending c =
    let w = c.args.s.now in
    let q = pending-here w c.loop-i.i (omega arith) _ c.line_at.ensures _ c.pending.ensures c.if-pending.true in
    let f = pendings-fit w in
    omega arith

pub loop-i-preserved : goal.loop-i-preserved
loop-i-preserved c =
    let w = c.args.s.now in
    let a = c.line_at.ensures in
    let b = c.pending.ensures in
    elim c.if-pending.branch [
      | then-pending e ↦ let q = pending-here w c.loop-i.i (omega arith) _ a _ b e.if-pending.true in omega arith
      | else-pending e ↦ let q = pending-over w c.loop-i.i (omega arith) _ a _ b e.if-pending.false in omega arith
    ]

pub returns : goal.returns
returns c =
    let q = pending-end c.args.s.now c.loop-i.i (omega arith) in
    omega arith
