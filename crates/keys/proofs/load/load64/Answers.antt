use Rattle.std.proofs.Common.{arith}
use Rattle.keys.proofs.Bytes.{eight-bytes}
use Rattle.keys.proofs.load.load64.Goals as goal

pub returns : goal.returns
returns c =
    let a = c.args in
    cc (eight-bytes a.s.now a.at (omega arith))
