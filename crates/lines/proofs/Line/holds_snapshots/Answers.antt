use native.Mathlib.Omega.{arith}
use mathlib.Core.Path.{sym, ◌∙◌}
use Rattle.lines.proofs.Laws.{held-is, items-held}
use Rattle.lines.proofs.Line.holds_snapshots.Goals as goal

pub holds_token-requires : goal.holds_token-requires
holds_token-requires c = let n = held-is c.args.self _ c.held-n.ensures in omega arith

pub holds_token-requires-then-holds_token : goal.holds_token-requires-then-holds_token
holds_token-requires-then-holds_token c = let n = held-is c.args.self _ c.held-n.ensures in omega arith

pub returns-then-holds_token : goal.returns-then-holds_token
returns-then-holds_token c =
    rw (items-held c.args.self _ c.held-n.ensures _, sym c.holds_token.ensures ∙ c.if-holds_token.true)
    c.holds_token-then-holds_token.ensures

pub returns-else-holds_token : goal.returns-else-holds_token
returns-else-holds_token c =
    rw (items-held c.args.self _ c.held-n.ensures _, sym c.holds_token.ensures ∙ c.if-holds_token.false) c.if-holds_token.false
