use native.Mathlib.Omega.{arith}
use Rattle.place.proofs.Items.{events-here, events-over, events-end, events-fit}
use Rattle.place.proofs.count_events.Goals as goal
use Rattle.place.proofs.count_events.Goals.{then-items-i-eq-EVENT, else-items-i-eq-EVENT}

pub overflow_add-count : goal.overflow_add-count
overflow_add-count c =
    let w = c.args.items.now in
    let n = c.args.n in
    let q = events-here w n c.loop-i.i (omega arith) c.if-items-i-eq-EVENT.true in
    let f = events-fit w n in
    omega arith

pub loop-i-preserved : goal.loop-i-preserved
loop-i-preserved c =
    let w = c.args.items.now in
    let n = c.args.n in
    elim c.if-items-i-eq-EVENT.branch [
      | then-items-i-eq-EVENT e ↦ let q = events-here w n c.loop-i.i (omega arith) e.if-items-i-eq-EVENT.true in omega arith
      | else-items-i-eq-EVENT e ↦ let q = events-over w n c.loop-i.i (omega arith) e.if-items-i-eq-EVENT.false in omega arith
    ]

pub returns : goal.returns
returns c =
    let q = events-end c.args.items.now c.args.n c.loop-i.i (omega arith) in
    omega arith
