use native.Mathlib.Omega.{arith}
use Rattle.market_tick.proofs.TurnLaws.{aligned-none, aligned-some}
use Rattle.market_tick.proofs.aligned.Goals as goal

pub returns-then-k-n : goal.returns-then-k-n
returns-then-k-n c = aligned-some _ _ (omega (arith, c.if-k-n.true)) c.put_report-m.ensures

pub returns : goal.returns
returns c = aligned-none _ _ _ c.requires.1 (omega (arith, c.if-k-n.false))
