use mathlib.Core.Path.{sym}
use mathlib.Core.Logic.{inl, inr}
use Rattle.place.proofs.Items.{items-length}
use Rattle.lines.proofs.Line.held.Goals as goal

pub returns-in-Waiting : goal.returns-in-Waiting
returns-in-Waiting c w = elim c.in-Waiting.is [ inl p ↦ rw p.1 (sym (items-length _ w)) | inr q ↦ rw q.2 (sym (items-length _ w)) ]

pub returns-in-Waiting-2 : goal.returns-in-Waiting-2
returns-in-Waiting-2 c w = elim c.in-Waiting.is [ inl p ↦ rw p.1 (sym (items-length _ w)) | inr q ↦ rw q.2 (sym (items-length _ w)) ]
