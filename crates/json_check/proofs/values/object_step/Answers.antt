use mathlib.Core.Path.{◌∙◌, ap}
use native.Mathlib.Omega.{arith}
use Rattle.json_text.specs.Refusals.{first}
use Rattle.json_text.proofs.EndLaws.{ends-nowhere-reads, ends-at-reads, ends-at-beyond}
use Rattle.json_text.proofs.Places.{place-behind}
use Rattle.json_check.specs.Numbers.{number_of}
use Rattle.json_check.proofs.Stacks.{stack_push}
use Rattle.json_check.proofs.Founds.{and_first}
use Rattle.json_check.proofs.StepLaws.{steps-value, steps-after, steps-bad}
use Rattle.json_check.proofs.ValueSteps.{object-end, object-no-name, object-name}
use Rattle.json_check.proofs.values.object_step.Goals as goal

pub returns-then-byte-eq125 : goal.returns-then-byte-eq125
returns-then-byte-eq125 c =
    let t = c.args.text.now in
    let p = c.args.p in
    let o = c.args.opened.now in
    let x = c.skip_ws-at.ensures in
    let b = c.byte.ensures in
    let q = and_first p.found _ _ c.and-found.ensures ∙ ap (first (number_of p.found)) c.depth_fault.ensures in
    steps-after t o p.at _ p.depth _ (omega (arith, x.1)) (place-behind t _ _ b (omega (arith, c.if-byte-eq125.true)))
    (omega (arith, x.1, c.requires.0.inside.shallow))
    (object-end t p.at _ _ x.0 b _ _ _ q c.if-byte-eq125.true)

pub returns-in_err-end : goal.returns-in_err-end
returns-in_err-end c =
    let t = c.args.text.now in
    let p = c.args.p in
    let o = c.args.opened.now in
    let q = and_first p.found _ _ c.and-found.ensures ∙ ap (first (number_of p.found)) c.depth_fault.ensures in
    let n = ends-nowhere-reads t _ _ _ c.name_end.ensures c.in_err-end.was in
    rw c.from_residual.ensures (steps-bad t o p.at (object-no-name t p.at _ _ c.skip_ws-at.ensures.0 c.byte.ensures _ _ _ q c.if-byte-eq125.false n))

pub returns : goal.returns
returns c =
    let t = c.args.text.now in
    let p = c.args.p in
    let o = c.args.opened.now in
    let x = c.skip_ws-at.ensures in
    let q = and_first p.found _ _ c.and-found.ensures ∙ ap (first (number_of p.found)) c.depth_fault.ensures in
    let r = c.requires.0 in
    let n = ends-at-reads t _ _ _ c.name_end.ensures _ c.in_ok-end.was in
    let y = ends-at-beyond t _ _ _ c.name_end.ensures _ c.in_ok-end.was in
    let k = stack_push o p.depth _ (omega (arith, r.inside.shallow, r.room, c.requires.1)) in
    steps-value t _ p.at _ _ _ (omega (arith, x.1, y.0)) y.1 (omega (arith, x.1, y.0, r.inside.shallow))
    (object-name t p.at _ _ x.0 c.byte.ensures _ _ _ q c.in_ok-end.end c.if-byte-eq125.false n k)
