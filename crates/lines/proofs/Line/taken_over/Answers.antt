use native.Mathlib.Omega.{arith}
use Rattle.lines.proofs.Laws.{held-is, items-held}
use Rattle.lines.proofs.Line.taken_over.Goals as goal

pub holds_token-requires : goal.holds_token-requires
holds_token-requires c = let n = held-is c.args.self _ c.held-n.ensures in omega arith

pub holds_token-requires-2 : goal.holds_token-requires-2
holds_token-requires-2 c = let n = held-is c.args.self _ c.held-n.ensures in omega arith

pub returns : goal.returns
returns c w =
    rw (items-held c.args.self _ c.held-n.ensures _, ← c.holds_token.ensures, ← c.holds_token-2.ensures)
