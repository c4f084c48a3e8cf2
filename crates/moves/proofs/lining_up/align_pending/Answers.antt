use native.Mathlib.Omega.{arith}
use Rattle.store.proofs.ConnLaws.{lined-sound}
use Rattle.moves.proofs.LiningLaws.{round-ready, sweep-start, sweep-on, sweep-less, sweep-stops, sweep-done}
use Rattle.moves.proofs.lining_up.align_pending.Goals as goal

pub pendings-pending-requires : goal.pendings-pending-requires
pendings-pending-requires c = lined-sound c.args.s.now c.requires.sound

pub loop-pending-init : goal.loop-pending-init
loop-pending-init c = sweep-start c.args.t c.requires c.pendings-pending.ensures

pub pendings-left-requires : goal.pendings-left-requires
pendings-left-requires c =
    let r = c.round-m in
    lined-sound r.new.s (round-ready c.args.t r.ensures r.auto.out c.loop-pending.invariant.ready).sound

pub returns-then-left-pending : goal.returns-then-left-pending
returns-then-left-pending c =
    sweep-stops c.args.t c.round-m.ensures c.loop-pending.invariant.pending c.pendings-left.ensures c.requires c.loop-pending.invariant c.if-left-pending.true

pub loop-pending-smaller : goal.loop-pending-smaller
loop-pending-smaller c =
    sweep-less c.args.t c.round-m.ensures c.loop-pending.invariant.pending c.pendings-left.ensures c.if-left-pending.false

pub loop-pending-preserved : goal.loop-pending-preserved
loop-pending-preserved c =
    sweep-on c.args.t c.round-m.ensures c.loop-pending.invariant.pending c.pendings-left.ensures c.requires c.loop-pending.invariant c.if-left-pending.false
    c.round-m.auto.s c.round-m.auto.out

pub returns : goal.returns
returns c =
    sweep-done c.args.t c.requires (omega arith) c.loop-pending.invariant
