use Rattle.market_snapshots.proofs.SnapshotLaws.{line_at}
use Rattle.market_events.proofs.StepLaws.{step-asks, step-said}
use Rattle.market_events.proofs.step_of.Goals as goal

pub limit_at-limit-requires : goal.limit_at-limit-requires
limit_at-limit-requires c =
    line_at c.requires.0 c.requires.1

pub line_at-requires : goal.line_at-requires
line_at-requires c =
    line_at c.requires.0 c.requires.1

pub event-requires : goal.event-requires
event-requires c =
    step-asks c.requires.0 c.requires.1 c.args.key c.limits-limits.result c.head-head.result c.keys.result.now c.limits-limits.ensures c.head-head.ensures
    c.keys.ensures

pub returns : goal.returns
returns c message =
    step-said c.requires.0 c.requires.1 c.args.key c.limits-limits.result c.head-head.result c.keys.result.now c.limit_at-limit.result c.line_at.result
    c.event.result
    c.limits-limits.ensures c.head-head.ensures c.keys.ensures c.limit_at-limit.ensures c.line_at.ensures c.event.ensures message
