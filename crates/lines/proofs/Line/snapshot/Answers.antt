use mathlib.Core.Path.{refl, sym}
use mathlib.Core.Logic.{inl, inr}
use Rattle.rules.specs.declared.Item.TheVariants as Item
use Rattle.place.proofs.Items.{items-length}
use Rattle.lines.proofs.Laws.{stands-waiting, items-full, items-room, stands_self}
use Rattle.lines.proofs.Line.snapshot.Goals as goal

pub returns-then-h-items : goal.returns-then-h-items
returns-then-h-items c w msg =
    rw (c.refused.ensures, c.in-Waiting.is, items-full _ _ w c.if-h-items.true) (record { line = stands-waiting _ _ _ (sym (items-length _ w)); answer = refl })

pub returns-else-h-items : goal.returns-else-h-items
returns-else-h-items c w msg =
    rw (c.stepped.ensures, c.in-Waiting.is, items-room _ _ w c.if-h-items.false)
    (record { line = c.more.ensures w (Item.Snapshot c.args.token msg); answer = refl })

pub returns-in-InLine : goal.returns-in-InLine
returns-in-InLine c w msg = rw c.in-InLine.is (c.due_ends.ensures c.args.h msg)

pub returns-in-Pending : goal.returns-in-Pending
returns-in-Pending c w msg =
    elim c.in-Pending.is [
      | inl p ↦ rw (c.stepped-in-Pending.ensures, p.3) (record { line = stands_self _ w; answer = refl })
      | inr q ↦ rw (c.stepped-in-Pending.ensures, q) (record { line = stands_self _ w; answer = refl })
    ]
