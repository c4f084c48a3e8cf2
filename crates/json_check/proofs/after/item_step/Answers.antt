use native.Mathlib.Omega.{arith}
use Rattle.json_text.proofs.Places.{place-behind}
use Rattle.json_check.specs.Numbers.{number_of}
use Rattle.json_check.proofs.AfterSteps.{item-end, item-next, item-none}
use Rattle.json_check.proofs.Stacks.{stack-pop}
use Rattle.json_check.proofs.StepLaws.{steps-value, steps-after, steps-bad}
use Rattle.json_check.proofs.after.item_step.Goals as goal

pub returns-then-b-eq93 : goal.returns-then-b-eq93
returns-then-b-eq93 c =
    let t = c.args.text.now in
    let p = c.args.p in
    λ opened k h e.
    steps-after t opened p.at _ _ _ (omega arith) (place-behind t _ _ c.byte-b.ensures (omega (arith, c.if-b-eq93.true)))
    (omega (arith, c.requires.0.shallow))
    (item-end t p.at _ c.byte-b.ensures k (number_of p.found) c.if-b-eq93.true (stack-pop opened p.depth _ k c.requires.1 h e))

pub skip_ws-requires : goal.skip_ws-requires
skip_ws-requires c =
    place-behind c.args.text.now _ _ c.byte-b.ensures (omega (arith, c.if-b-eq44.true))

pub returns-then-b-eq44 : goal.returns-then-b-eq44
returns-then-b-eq44 c =
    let t = c.args.text.now in
    let p = c.args.p in
    let x = c.skip_ws.ensures in
    λ opened k h e.
    steps-value t opened p.at _ p.depth _ (omega (arith, x.1)) x.2 (omega (arith, x.1, c.requires.0.shallow))
    (item-next t p.at _ c.byte-b.ensures k (number_of p.found) c.if-b-eq44.true c.skip_ws.result x.0 e)

pub returns : goal.returns
returns c =
    let t = c.args.text.now in
    let p = c.args.p in
    λ opened k h e.
    steps-bad t opened p.at
    (item-none t p.at _ c.byte-b.ensures k (number_of p.found) c.if-b-eq93.false c.if-b-eq44.false)
