use Rattle.std.proofs.Common.{arith}
use Rattle.keys.proofs.Rotation.{or-rotated}
use Rattle.keys.proofs.sip.rotl.Goals as goal

pub returns : goal.returns
returns c = or-rotated c.args.x c.args.k (omega arith) (omega arith)
