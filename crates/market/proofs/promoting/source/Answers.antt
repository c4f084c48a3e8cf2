use native.Mathlib.Omega.{arith}
use Rattle.store.proofs.ConnLaws.{fits-sound}
use Rattle.market.proofs.PromoteLaws.{source-end, source-step}
use Rattle.market.proofs.promoting.source.Goals as goal

pub loop-i-init : goal.loop-i-init
loop-i-init c = source-end c.args.s.now _ c.count-i.ensures

pub claim_of-requires : goal.claim_of-requires
claim_of-requires c = fits-sound _ c.requires _ (omega arith)

pub loop-i-preserved : goal.loop-i-preserved
loop-i-preserved c = source-step _ c.loop-i.i (omega arith) (omega arith) c.claim_of.result c.loop-i.best c.better_of-best.result c.claim_of.ensures c.loop-i.invariant c.better_of-best.ensures
