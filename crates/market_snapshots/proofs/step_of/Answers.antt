use Rattle.market_snapshots.proofs.SnapshotLaws.{line_at}
use Rattle.market_snapshots.proofs.StepLaws.{step-said}
use Rattle.market_snapshots.proofs.step_of.Goals as goal

pub line_at-requires : goal.line_at-requires
line_at-requires c =
    line_at c.requires.0 c.requires.1

pub returns : goal.returns
returns c message =
    step-said c.requires.0 c.requires.1 c.held_limit-h.result c.args.token c.line_at.result c.snapshot.result
    c.held_limit-h.ensures c.line_at.ensures c.snapshot.ensures message
