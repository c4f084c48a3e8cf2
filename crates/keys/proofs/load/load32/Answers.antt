use Rattle.std.proofs.Common.{arith}
use Rattle.keys.proofs.Bytes.{four_bytes}
use Rattle.keys.proofs.load.load32.Goals as goal

pub returns : goal.returns
returns c =
    let a = c.args in
    (cc (four_bytes a.s.now a.at (omega arith)), omega arith)
