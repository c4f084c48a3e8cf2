use mathlib.Core.Path.{◌∙◌}
use native.Mathlib.Omega.{arith}
use Rattle.member_order.proofs.CodeSteps.{digit-ended, digit-read}
use Rattle.member_order.proofs.codes.digit.Goals as goal

pub returns-then-b : goal.returns-then-b
returns-then-b c =
    let a = c.args in
    (digit-ended a.names.now a.at _ c.byte_in-b.ensures (omega arith), omega arith)

pub returns : goal.returns
returns c =
    let a = c.args in
    (digit-read a.names.now a.at _ (c.from.ensures ∙ c.byte_in-b.ensures) (λ e. omega arith), omega arith)
