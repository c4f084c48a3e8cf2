use mathlib.Core.Logic.{inl, inr}
use Rattle.lines.proofs.SoundLaws.{items-fit}
use Rattle.lines.proofs.area.line_sound.Goals as goal

pub returns-in-Waiting : goal.returns-in-Waiting
returns-in-Waiting c =
    let a = c.args in
    elim c.in-Waiting.is [ inl p ↦ rw p.1 (items-fit a.h _ a.items.now _ c.items_sound.ensures) | inr q ↦ rw q.2 (items-fit a.h _ a.items.now _ c.items_sound.ensures) ]
