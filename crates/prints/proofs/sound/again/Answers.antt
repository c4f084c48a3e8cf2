use mathlib.Core.Path.{sym, ◌∙◌}
use native.Mathlib.Omega.{arith}
use Rattle.words.proofs.Cases.{says}
use Rattle.rules.proofs.Tests.{ff≢tt}
use Rattle.rows.specs.Rows.{row_at}
use Rattle.prints.proofs.sound.again.Goals as goal

pub returns : goal.returns
unfolding row_at
returns c =
    says _ _
    (λ e. record { behind = omega arith; same = sym c.same.ensures ∙ e })
    (λ e s. ff≢tt (sym c.same.ensures ∙ e) s.same)
