use mathlib.Core.Path.{◌∙◌}
use Rattle.member_order.proofs.CodeSame.{both-ended, both-go-on}
use Rattle.member_order.proofs.sort.order_behind.Goals as goal

pub returns-then-x-eq0 : goal.returns-then-x-eq0
returns-then-x-eq0 c =
    both-ended c.args.names.now _ _ c.requires.0 c.requires.1 c.requires.2 c.if-x-eq0.true

pub returns : goal.returns
returns c = c.compare.ensures ∙ both-go-on c.args.names.now _ _ c.requires.0 c.requires.1 c.requires.2 c.if-x-eq0.false
