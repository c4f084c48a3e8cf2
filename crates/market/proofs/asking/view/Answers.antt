use mathlib.Core.Path.{sym, ◌∙◌}
use native.Mathlib.Omega.{arith}
use Rattle.rules.specs.Lines.{is_pending}
use Rattle.store.proofs.ConnLaws.{lined-sound, line-told}
use Rattle.market.proofs.AskLaws.{line-at-sound, view-absent, view-ready, view-done, view-none}
use Rattle.market.proofs.asking.view.Goals as goal
use Rattle.market.proofs.asking.view.Goals.{else-i-count-via-then-i-count+else-pending, else-i-count-via-else-i-count}

pub find-i-requires : goal.find-i-requires
find-i-requires c = lined-sound _ c.requires.0

pub line_at-requires : goal.line_at-requires
line_at-requires c = line-at-sound _ c.requires.0 _ (omega arith)

pub held-n-requires : goal.held-n-requires
held-n-requires c = line-at-sound _ c.requires.0 _ (omega arith)

pub items-requires : goal.items-requires
items-requires c = line-at-sound _ c.requires.0 _ (omega arith)

pub put_messages-requires : goal.put_messages-requires
put_messages-requires c = view-ready _ c.requires.0 _ _ _ (omega arith) c.held-n.ensures c.items.ensures c.requires.1

pub returns-then-pending : goal.returns-then-pending
returns-then-pending c = view-done _ _ _ _ _ _ c.find-i.ensures (sym (line-told _ _ (omega arith) is_pending (λ v. c.pending.result) _ c.pending.ensures c.line_at.ensures) ∙ c.if-pending.true) (omega arith) c.held-n.ensures _ c.items.ensures c.put_messages.ensures

pub returns : goal.returns
returns c =
    elim c.else-i-count.branch [
      | else-i-count-via-then-i-count+else-pending b ↦
          view-none _ _ _ _ c.find-i.ensures (sym (line-told _ _ (omega arith) is_pending (λ v. b.pending.result) _ b.pending.ensures b.line_at.ensures) ∙ b.if-pending.false)
      | else-i-count-via-else-i-count b ↦ view-absent _ _ _ _ c.find-i.ensures (omega arith)
    ]
