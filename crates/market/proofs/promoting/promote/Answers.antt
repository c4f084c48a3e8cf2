use mathlib.Core.Path.{sym, ◌∙◌}
use Rattle.store.proofs.ConnLaws.{lined-sound}
use Rattle.store.proofs.EntryLaws.{counts}
use Rattle.market.proofs.PromoteLaws.{promote-kept, take-over-ready, sweep-ready, promote-gone, promote-done}
use Rattle.market.proofs.promoting.promote.Goals as goal

pub any_in_line-requires : goal.any_in_line-requires
any_in_line-requires c = lined-sound _ c.requires.sound

pub returns-then-any_in_line : goal.returns-then-any_in_line
returns-then-any_in_line c = promote-kept _ _ _ c.requires (sym c.any_in_line.ensures ∙ c.if-any_in_line.true)

pub clear_log-requires-clause-s_bound : goal.clear_log-requires-clause-s_bound
clear_log-requires-clause-s_bound c = (counts c.requires.sound).numbers

pub returns-in_default : goal.returns-in_default
returns-in_default c = promote-gone _ c.requires (sym c.any_in_line.ensures ∙ c.if-any_in_line.false) c.clear_log.ensures c.clear_log.auto.s (sym c.in_default.ensures)

pub take_over-n-requires : goal.take_over-n-requires
take_over-n-requires c = take-over-ready c.args.t c.requires (sym c.any_in_line.ensures ∙ c.if-any_in_line.false) c.clear_log.ensures _ _ (sym c.in-Some.ensures)

pub align_pending-requires : goal.align_pending-requires
align_pending-requires c = sweep-ready c.args.t c.requires (sym c.any_in_line.ensures ∙ c.if-any_in_line.false) c.clear_log.ensures _ _ (sym c.in-Some.ensures) c.take_over-n.auto.out c.take_over-n.ensures

pub returns : goal.returns
returns c = promote-done _ c.requires (sym c.any_in_line.ensures ∙ c.if-any_in_line.false) c.clear_log.ensures _ _ (sym c.in-Some.ensures) (c.align_pending.auto.s ∙ c.take_over-n.auto.s ∙ c.clear_log.auto.s) c.take_over-n.ensures c.align_pending.ensures
