use mathlib.Core.Path.{◌∙◌, ap}
use native.Mathlib.Omega.{arith}
use Rattle.json_text.specs.Refusals.{first}
use Rattle.json_text.proofs.EndLaws.{ends-nowhere-reads, ends-at-reads, ends-at-beyond}
use Rattle.json_check.specs.Numbers.{number_of}
use Rattle.json_check.proofs.Founds.{and_first}
use Rattle.json_check.proofs.StepLaws.{steps-after, steps-bad}
use Rattle.json_check.proofs.ValueSteps.{number-none, number-some}
use Rattle.json_check.proofs.values.number_step.Goals as goal

pub returns-in_err-end : goal.returns-in_err-end
returns-in_err-end c =
    let t = c.args.text.now in
    let p = c.args.p in
    let n = ends-nowhere-reads t _ _ _ c.number_end.ensures c.in_err-end.was in
    λ opened. rw c.from_residual.ensures (steps-bad t opened p.at (number-none t p.at _ (number_of p.found) n))

pub number_fault-requires : goal.number_fault-requires
number_fault-requires c =
    let t = c.args.text.now in
    let b = ends-at-beyond t _ _ _ c.number_end.ensures _ c.in_ok-end.was in
    (omega (arith, b.0), b.1)

pub returns : goal.returns
returns c =
    let t = c.args.text.now in
    let p = c.args.p in
    let r = ends-at-reads t _ _ _ c.number_end.ensures _ c.in_ok-end.was in
    let b = ends-at-beyond t _ _ _ c.number_end.ensures _ c.in_ok-end.was in
    let f = and_first p.found _ _ c.and-found.ensures ∙ ap (first (number_of p.found)) c.number_fault.ensures in
    λ opened.
    steps-after t opened p.at _ p.depth _ (omega (arith, b.0)) b.1 (omega (arith, b.0, c.requires.shallow))
    (number-some t p.at _ (number_of p.found) _ _ (omega (arith, b.0)) b.1 r f)
