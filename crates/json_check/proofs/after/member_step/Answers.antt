use native.Mathlib.Omega.{arith}
use Rattle.json_text.proofs.EndLaws.{ends-nowhere-reads, ends-at-reads, ends-at-beyond}
use Rattle.json_text.proofs.Places.{place-behind}
use Rattle.json_check.specs.Numbers.{number_of}
use Rattle.json_check.proofs.AfterSteps.{member-end, member-none, member-no-name, member-name}
use Rattle.json_check.proofs.Stacks.{stack-pop}
use Rattle.json_check.proofs.StepLaws.{steps-value, steps-after, steps-bad}
use Rattle.json_check.proofs.after.member_step.Goals as goal

pub returns-then-b-eq125 : goal.returns-then-b-eq125
returns-then-b-eq125 c =
    let t = c.args.text.now in
    let p = c.args.p in
    λ opened k h e.
    steps-after t opened p.at _ _ _ (omega arith) (place-behind t _ _ c.byte-b.ensures (omega (arith, c.if-b-eq125.true)))
    (omega (arith, c.requires.0.shallow))
    (member-end t p.at _ c.byte-b.ensures k (number_of p.found) c.if-b-eq125.true (stack-pop opened p.depth _ k c.requires.1 h e))

pub returns-then-b-ne44 : goal.returns-then-b-ne44
returns-then-b-ne44 c =
    let t = c.args.text.now in
    let p = c.args.p in
    λ opened k h e.
    steps-bad t opened p.at
    (member-none t p.at _ c.byte-b.ensures k (number_of p.found) c.if-b-eq125.false c.if-b-ne44.true)

pub skip_ws-requires : goal.skip_ws-requires
skip_ws-requires c =
    place-behind c.args.text.now _ _ c.byte-b.ensures (omega (arith, c.if-b-ne44.false))

pub returns-in_err-end : goal.returns-in_err-end
returns-in_err-end c =
    let t = c.args.text.now in
    let p = c.args.p in
    let r = ends-nowhere-reads t _ _ _ c.name_end.ensures c.in_err-end.was in
    λ opened k h e.
    rw c.from_residual.ensures (steps-bad t opened p.at
    (member-no-name t p.at _ c.byte-b.ensures k (number_of p.found) c.if-b-ne44.false c.skip_ws.result c.skip_ws.ensures.0 r))

pub returns : goal.returns
returns c =
    let t = c.args.text.now in
    let p = c.args.p in
    let x = c.skip_ws.ensures in
    let r = ends-at-reads t _ _ _ c.name_end.ensures _ c.in_ok-end.was in
    let y = ends-at-beyond t _ _ _ c.name_end.ensures _ c.in_ok-end.was in
    λ opened k h e.
    steps-value t opened p.at _ p.depth _ (omega (arith, x.1, y.0)) y.1 (omega (arith, x.1, y.0, c.requires.0.shallow))
    (member-name t p.at _ c.byte-b.ensures k (number_of p.found) c.if-b-ne44.false c.skip_ws.result x.0 c.in_ok-end.end r e)
