use native.Mathlib.Omega.{arith}
use Rattle.std.proofs.lemmas.Grind.{common_steps}
use Rattle.std.proofs.lemmas.Option.{gets}
use Rattle.member_order.proofs.compare.byte_in.Goals as goal

pub returns : goal.returns
returns c = grind (arith, common_steps, gets)
