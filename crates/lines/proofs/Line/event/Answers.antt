use mathlib.Core.Path.{refl}
use mathlib.Core.Logic.{inl, inr}
use Rattle.rules.specs.declared.Item.TheVariants as Item
use Rattle.lines.proofs.Laws.{Holds, event-fails, event-held, stands-failed}
use Rattle.lines.proofs.Line.event.Goals as goal

pub returns-in-InLine : goal.returns-in-InLine
returns-in-InLine c w msg = rw c.in-InLine.is (c.advance.ensures c.args.limit msg)

pub returns-then-limit-items : goal.returns-then-limit-items
returns-then-limit-items c w msg =
    let a = c.args in
    let h : Holds a.self c.in-Waiting.items = elim c.in-Waiting.is [ inl p ↦ rw p.1 refl | inr q ↦ rw q.2 refl ] in
    rw (c.stepped-then-limit-items.ensures, event-fails a.limit a.head.base _ a.key msg a.self c.in-Waiting.items w h c.if-limit-items.true)
    (record { line = stands-failed; answer = refl })

pub returns-else-limit-items : goal.returns-else-limit-items
returns-else-limit-items c w msg =
    let a = c.args in
    let h : Holds a.self c.in-Waiting.items = elim c.in-Waiting.is [ inl p ↦ rw p.1 refl | inr q ↦ rw q.2 refl ] in
    rw (c.stepped-else-limit-items.ensures, event-held a.limit a.head.base _ a.key msg a.self c.in-Waiting.items w h c.if-limit-items.false)
    (record { line = rw c.in-Waiting.self-is at (c.more.ensures w (Item.Event a.key msg)); answer = refl })
