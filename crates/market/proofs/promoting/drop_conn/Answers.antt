use mathlib.Core.Path.{sym, ◌∙◌}
use Rattle.market.proofs.PromoteLaws.{drop-ready, drop-done, drop-kept}
use Rattle.market.proofs.promoting.drop_conn.Goals as goal

pub promote-requires : goal.promote-requires
promote-requires c = drop-ready _ c.requires c.remove.ensures

pub returns-then-led : goal.returns-then-led
returns-then-led c = drop-done _ _ _ c.remove.auto.s (sym c.in_line-led.ensures ∙ c.if-led.true) c.remove.ensures c.promote.ensures

pub returns : goal.returns
returns c = drop-kept _ _ c.requires c.remove.auto.s (sym c.in_line-led.ensures ∙ c.if-led.false) c.remove.ensures
