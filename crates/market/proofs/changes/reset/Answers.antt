use mathlib.Core.Path.{◌∙◌}
use Rattle.store.proofs.ConnLaws.{lined-sound}
use Rattle.store.proofs.EntryLaws.{counts}
use Rattle.market.proofs.AskLaws.{clear_kept, reset-done}
use Rattle.market.proofs.changes.reset.Goals as goal

pub clear_log-requires-clause-s_bound : goal.clear_log-requires-clause-s_bound
clear_log-requires-clause-s_bound c = (counts c.requires).numbers

pub reset-requires : goal.reset-requires
reset-requires c = lined-sound _ (clear_kept c.requires c.clear_log.ensures)

pub returns : goal.returns
returns c = reset-done _ c.requires (c.reset.auto.s ∙ c.clear_log.auto.s) c.clear_log.ensures c.reset.ensures
