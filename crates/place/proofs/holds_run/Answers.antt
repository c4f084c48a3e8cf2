use mathlib.Core.Path.{sym, ap}
use native.Mathlib.Omega.{arith}
use lib.ListN.{length}
use borrow.Author.Tests.{le-leb, lt-leb}
use Rattle.place.proofs.Next.{held_from, held-end}
use Rattle.place.proofs.Run.{run-event, run-snapshot}
use Rattle.place.proofs.holds_run.Goals as goal
use Rattle.place.proofs.holds_run.Goals.{then-items-i-eq-EVENT+else-n-eq-ALIGN_RUN, else-items-i-eq-EVENT}

pub returns-then-n-eq-ALIGN_RUN : goal.returns-then-n-eq-ALIGN_RUN
returns-then-n-eq-ALIGN_RUN c =
    let l = c.loop-i in
    let a = c.args in
    let e = run-event a.items.now a.held l.i (omega arith) c.if-items-i-eq-EVENT.true in
    sym (le-leb 4 (length (held_from a.items.now a.held 0)) (omega arith))

pub loop-i-preserved : goal.loop-i-preserved
loop-i-preserved c =
    let a = c.args in
    elim c.if-items-i-eq-EVENT.branch [
      | then-items-i-eq-EVENT+else-n-eq-ALIGN_RUN w ↦
          let e = run-event a.items.now a.held c.loop-i.i (omega arith) w.if-items-i-eq-EVENT.true in (omega arith, omega arith)
      | else-items-i-eq-EVENT w ↦
          let e = run-snapshot a.items.now a.held c.loop-i.i (omega arith) w.if-items-i-eq-EVENT.false in (omega arith, omega arith)
    ]

pub returns : goal.returns
returns c =
    let a = c.args in
    let e = ap length (held-end a.items.now a.held c.loop-i.i (omega arith)) in
    sym (lt-leb 4 (length (held_from a.items.now a.held 0)) (omega arith))
