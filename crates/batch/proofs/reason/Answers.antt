use native.Mathlib.Omega.{arith}
use Rattle.batch.proofs.CallLaws.{reason-0, reason-9, reason-call}
use Rattle.batch.proofs.reason.Goals as goal

pub returns-in-1-to-8 : goal.returns-in-1-to-8
returns-in-1-to-8 c = reason-call _ (omega arith) (omega arith)

pub returns-in_default : goal.returns-in_default
returns-in_default c = reason-0 _ (omega arith)

pub returns-in_default-2 : goal.returns-in_default-2
returns-in_default-2 c = reason-9 _ (omega arith)
