use mathlib.Core.Path.{sym}
use native.Mathlib.Omega.{arith}
use Rattle.levels.proofs.Totals.{tab-front}
use Rattle.depth.specs.Value.{blank}
use Rattle.depth.proofs.Side.levels.Goals as goal

pub returns : goal.returns
returns c =
    let s = c.args.self.now in
    sym (tab-front blank s.count s.levels (omega arith))
