-- No event stands from `from` to i.
use mathlib.Core.Path.{sym, ap, ◌∙◌}
use native.Mathlib.Omega.{arith}
use Rattle.place.specs.Items.{is_event}
use Rattle.place.proofs.Items.{event-in, snapshot-in}
use Rattle.place.proofs.Next.{event-here, event-over, event-end}
use Rattle.place.proofs.next_event.Goals as goal

pub loop-i-preserved : goal.loop-i-preserved
loop-i-preserved c =
    let l = c.loop-i in
    (omega arith, l.invariant.1 ∙ event-over is_event _ _ l.i (omega arith) (ap is_event (snapshot-in c.args.items.now l.i c.if-items-i-ne-EVENT.true)))

pub returns-else-items-i-ne-EVENT : goal.returns-else-items-i-ne-EVENT
returns-else-items-i-ne-EVENT c =
    let l = c.loop-i in
    event-here is_event _ _ l.i (omega arith) (ap is_event (event-in c.args.items.now l.i c.if-items-i-ne-EVENT.false)) ∙ sym l.invariant.1

pub returns-after-loop-i : goal.returns-after-loop-i
returns-after-loop-i c = event-end is_event _ _ _ c.loop-i-test.false ∙ sym c.loop-i.invariant.1
