-- No snapshot stands before i.
use mathlib.Core.Path.{sym, ap, ◌∙◌}
use native.Mathlib.Omega.{arith}
use Rattle.rules.specs.Lines.{is_snapshot}
use Rattle.place.proofs.Items.{event-in, snapshot-in}
use Rattle.place.proofs.Next.{item-here, item-over, item-end}
use Rattle.place.proofs.holds_snapshot.Goals as goal

pub returns-then-items-i-ne-EVENT : goal.returns-then-items-i-ne-EVENT
returns-then-items-i-ne-EVENT c =
    let l = c.loop-i in
    item-here is_snapshot _ _ l.i (omega arith) (ap is_snapshot (snapshot-in c.args.items.now l.i c.if-items-i-ne-EVENT.true)) ∙ sym l.invariant

pub loop-i-preserved : goal.loop-i-preserved
loop-i-preserved c =
    let l = c.loop-i in
    l.invariant ∙ item-over is_snapshot _ _ l.i (omega arith) (ap is_snapshot (event-in c.args.items.now l.i c.if-items-i-ne-EVENT.false))

pub returns : goal.returns
returns c = item-end is_snapshot _ _ _ (omega arith) ∙ sym c.loop-i.invariant
