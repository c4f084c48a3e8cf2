use mathlib.Core.Path.{sym, ◌∙◌}
use native.Mathlib.Omega.{arith}
use Rattle.rows.specs.Rows.{row_at}
use Rattle.rows.proofs.Tests.{no_both}
use Rattle.words.proofs.Cases.{says}
use Rattle.rows.proofs.rises.Goals as goal

pub returns : goal.returns
unfolding row_at
returns c = says _ _ (λ e h. sym c.less.ensures ∙ e) (λ e p. no_both (p (omega arith)) (sym c.less.ensures ∙ e))
