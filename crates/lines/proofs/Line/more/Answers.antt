use mathlib.Core.Path.{sym, ◌∙◌}
use mathlib.Core.Logic.{inl, inr}
use Rattle.place.proofs.Items.{items-length}
use Rattle.lines.proofs.Laws.{one_more, stands-waiting, stands-pending, stands-in-line, stands-failed}
use Rattle.lines.proofs.Line.more.Goals as goal

pub returns-in-Waiting : goal.returns-in-Waiting
returns-in-Waiting c w item = rw c.in-Waiting.is (stands-waiting _ _ _ (one_more _ w item))

pub returns-in-Pending : goal.returns-in-Pending
returns-in-Pending c w item = rw c.in-Pending.is (stands-pending _ _ _ _ (one_more _ w item))

pub returns-in-InLine : goal.returns-in-InLine
returns-in-InLine c w item = elim c.in-InLine.is [ inl p ↦ rw p.3 (stands-in-line _ _ _) | inr q ↦ rw q stands-failed ]
