use mathlib.Core.Path.{◌∙◌, ap}
use native.Mathlib.Omega.{arith}
use Rattle.json_text.specs.Refusals.{first}
use Rattle.json_text.proofs.Places.{place-behind}
use Rattle.json_check.specs.Numbers.{number_of}
use Rattle.json_check.proofs.Stacks.{stack_push}
use Rattle.json_check.proofs.Founds.{and_first}
use Rattle.json_check.proofs.StepLaws.{steps-value, steps-after}
use Rattle.json_check.proofs.ValueSteps.{array-end, array-item}
use Rattle.json_check.proofs.values.array_step.Goals as goal

pub returns-then-byte-eq93 : goal.returns-then-byte-eq93
returns-then-byte-eq93 c =
    let t = c.args.text.now in
    let p = c.args.p in
    let o = c.args.opened.now in
    let x = c.skip_ws-at.ensures in
    let b = c.byte.ensures in
    let q = and_first p.found _ _ c.and-found.ensures ∙ ap (first (number_of p.found)) c.depth_fault.ensures in
    steps-after t o p.at _ p.depth _ (omega (arith, x.1)) (place-behind t _ _ b (omega (arith, c.if-byte-eq93.true)))
    (omega (arith, x.1, c.requires.0.inside.shallow))
    (array-end t p.at _ _ x.0 b _ _ _ q c.if-byte-eq93.true)

pub returns : goal.returns
returns c =
    let t = c.args.text.now in
    let p = c.args.p in
    let o = c.args.opened.now in
    let x = c.skip_ws-at.ensures in
    let q = and_first p.found _ _ c.and-found.ensures ∙ ap (first (number_of p.found)) c.depth_fault.ensures in
    let r = c.requires.0 in
    let k = stack_push o p.depth _ (omega (arith, r.inside.shallow, r.room, c.requires.1)) in
    steps-value t _ p.at _ _ _ (omega (arith, x.1)) x.2 (omega (arith, x.1, r.inside.shallow))
    (array-item t p.at _ _ x.0 c.byte.ensures _ _ _ q c.if-byte-eq93.false k)
