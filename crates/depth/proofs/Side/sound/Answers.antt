use mathlib.Core.Path.{sym}
use lib.ListN.{get_or}
use Rattle.levels.proofs.Reading.{over-unsound}
use Rattle.depth.specs.Value.{blank}
use Rattle.depth.proofs.Readings.{split-side}
use Rattle.depth.proofs.Side.sound.Goals as goal

pub returns-then-self-gt512 : goal.returns-then-self-gt512
returns-then-self-gt512 c =
    let s = c.args.self.now in
    sym (over-unsound c.args.bid s.count (λ i. get_or s.levels i blank) c.if-self-gt512.true)

pub returns : goal.returns
returns c =
    let s = c.args.self.now in
    rw (split-side s.levels _ _ s.count c.split-columns.ensures) at c.sound.ensures
