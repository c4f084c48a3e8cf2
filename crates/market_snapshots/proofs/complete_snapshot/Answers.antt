use mathlib.Core.Path.{◌∙◌}
use Rattle.market_snapshots.proofs.SnapshotLaws.{line_at}
use Rattle.market_snapshots.proofs.HoldLaws.{items-ready, uncomplete, complete-ready, complete-none, complete-some}
use Rattle.market_snapshots.proofs.complete_snapshot.Goals as goal

pub line_at-line-requires : goal.line_at-line-requires
line_at-line-requires c =
    line_at c.requires.0.sound c.requires.1

pub items-requires : goal.items-requires
items-requires c =
    line_at c.requires.0.sound c.requires.1

pub holds_snapshots-requires : goal.holds_snapshots-requires
holds_snapshots-requires c =
    items-ready c.args.t c.requires.0 c.requires.1 c.line_at-line.result c.line_at-line.ensures c.items.result.now c.items.ensures

pub set_line-requires : goal.set_line-requires
set_line-requires c =
    line_at c.requires.0.sound c.requires.1

pub released-n-requires : goal.released-n-requires
released-n-requires c =
    complete-ready c.args.t c.requires.0 c.requires.1 c.line_at-line.result c.line_at-line.ensures c.complete.result c.complete.ensures
    c.set_line.ensures

pub returns-else-n-ne0 : goal.returns-else-n-ne0
returns-else-n-ne0 c =
    complete-none c.args.t c.requires.0 c.requires.1 c.line_at-line.result c.line_at-line.ensures c.complete.result c.complete.ensures
    c.set_line.ensures
    c.items.ensures c.holds_snapshots.ensures c.if-holds_snapshots.true (c.released-n.auto.s ∙ c.set_line.auto.s) c.released-n.ensures
    c.if-n-ne0.false

pub returns-then-n-ne0 : goal.returns-then-n-ne0
returns-then-n-ne0 c =
    complete-some c.args.t c.requires.0 c.requires.1 c.line_at-line.result c.line_at-line.ensures c.complete.result c.complete.ensures
    c.set_line.ensures
    c.items.ensures c.holds_snapshots.ensures c.if-holds_snapshots.true (c.released-n.auto.s ∙ c.set_line.auto.s) c.released-n.ensures c.if-n-ne0.true

pub returns-else-holds_snapshots : goal.returns-else-holds_snapshots
returns-else-holds_snapshots c =
    uncomplete c.args.t c.requires.0 c.requires.1 c.line_at-line.result c.line_at-line.ensures c.items.ensures c.holds_snapshots.ensures
    c.if-holds_snapshots.false
