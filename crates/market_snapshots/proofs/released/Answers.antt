use Rattle.market.proofs.AnswerLaws.{ready-begin}
use Rattle.market_snapshots.proofs.SnapshotLaws.{released-ready, released-none, released-swept}
use Rattle.market_snapshots.proofs.released.Goals as goal

pub try_align-n-requires : goal.try_align-n-requires
try_align-n-requires c =
    (ready-begin c.requires.0, c.requires.1)

pub returns-then-n-eq0 : goal.returns-then-n-eq0
returns-then-n-eq0 c =
    released-none c.args.i c.args.t c.try_align-n.ensures c.if-n-eq0.true

pub align_pending-requires : goal.align_pending-requires
align_pending-requires c =
    released-ready c.args.i c.args.t c.try_align-n.ensures c.requires.0 c.try_align-n.auto.out

pub returns : goal.returns
returns c =
    released-swept c.args.i c.args.t c.try_align-n.ensures c.if-n-eq0.false c.align_pending.ensures
