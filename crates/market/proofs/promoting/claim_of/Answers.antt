use mathlib.Core.Path.{ap, ◌∙◌}
use Rattle.rules.specs.Calls.{claim}
use Rattle.moves.proofs.StoreReads.{value-fits, value_line}
use Rattle.market.proofs.promoting.claim_of.Goals as goal

pub claim-requires : goal.claim-requires
claim-requires c = value-fits _ _ c.requires c.line_at.ensures c.items.ensures

pub returns : goal.returns
returns c =
    c.claim.ensures ∙ ap claim (value_line _ _ c.requires c.line_at.ensures c.items.ensures)
