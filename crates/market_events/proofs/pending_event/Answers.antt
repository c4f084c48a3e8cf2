use Rattle.market_events.proofs.EventLaws.{tries-some, tried-at, tries-none}
use Rattle.market_events.proofs.pending_event.Goals as goal

pub line_at-requires : goal.line_at-requires
line_at-requires c =
    tried-at c.requires.0 c.requires.1 c.released-n.ensures c.if-n-ne0.false

pub returns-then-in_line : goal.returns-then-in_line
returns-then-in_line c =
    tries-none c.requires.0 c.requires.1 c.released-n.ensures c.if-n-ne0.false c.line_at.result c.in_line.result c.line_at.ensures
    c.in_line.ensures c.released-n.auto.s c.if-in_line.true

pub returns : goal.returns
returns c =
    tries-none c.requires.0 c.requires.1 c.released-n.ensures c.if-n-ne0.false c.line_at.result c.in_line.result c.line_at.ensures
    c.in_line.ensures c.released-n.auto.s c.if-in_line.false

pub returns-then-n-ne0 : goal.returns-then-n-ne0
returns-then-n-ne0 c =
    tries-some c.requires.0 c.requires.1 c.released-n.ensures c.released-n.auto.s c.if-n-ne0.true
