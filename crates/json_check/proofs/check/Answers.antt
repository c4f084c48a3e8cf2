use native.Mathlib.Omega.{arith}
use Rattle.json_text.specs.Refusals.{too_long}
use Rattle.json_check.proofs.check.Goals as goal

pub returns : goal.returns
returns c = too_long (omega (arith, c.if-text-le32768.false))
