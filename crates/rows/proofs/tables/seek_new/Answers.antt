use mathlib.Core.Path.{sym, ◌∙◌}
use native.Mathlib.Omega.{arith}
use Rattle.rows.specs.Rows.{row_at}
use Rattle.rows.proofs.Search.{lower-here, lower-other}
use Rattle.rows.proofs.tables.seek_new.Goals as goal

pub returns-then-less : goal.returns-then-less
unfolding row_at
returns-then-less c = c.seek.ensures

pub returns-then-same : goal.returns-then-same
unfolding row_at
returns-then-same c = record { within = omega arith; hit = sym c.same.ensures ∙ c.if-same.true }

pub returns-else-same : goal.returns-else-same
unfolding row_at
returns-else-same c =
    lower-other _ _ _ _ _ _ _
    (lower-here _ _ _ _ _ _ _ (omega (arith, c.requires.i_in_bounds.1)) c.requires.before _ c.less.ensures c.if-less.false)
    _
    c.same.ensures
    c.if-same.false
