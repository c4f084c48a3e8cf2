use mathlib.Core.Path.{◌∙◌, ap}
use mathlib.Core.Bool.{Bool}
use mathlib.Core.List.{List, ◌∷◌}
use native.Mathlib.Omega.{arith}
use Prim.Native.Nat.{◌-◌, ◌≤◌}
use lib.ListN.{length}
use Rattle.json_check.specs.Steps.{stack}
use Rattle.json_check.specs.Numbers.{number_of}
use Rattle.json_check.proofs.AfterSteps.{after-end, after_more, after-array, after-object}
use Rattle.json_check.proofs.Stacks.{stack_top}
use Rattle.json_check.proofs.StepLaws.{steps-as, steps-done, steps-bad}
use Rattle.json_check.proofs.after.after_step.Goals as goal

pub returns-then-at-text : goal.returns-then-at-text
returns-then-at-text c =
    let t = c.args.text.now in
    let o = c.args.opened.now in
    let p = c.args.p in
    steps-done t o p.at p.found
    (after-end t p.at c.skip_ws-at.result c.skip_ws-at.ensures.0 _ (number_of p.found) (ap (stack o) c.if-p-eq0.true) (omega (arith, c.if-at-text.true)))

pub returns-then-p-eq0 : goal.returns-then-p-eq0
returns-then-p-eq0 c =
    let t = c.args.text.now in
    let o = c.args.opened.now in
    let p = c.args.p in
    let x = c.skip_ws-at.ensures in
    steps-bad t o p.at
    (after_more t p.at c.skip_ws-at.result x.0 _ (number_of p.found) (ap (stack o) c.if-p-eq0.true) (omega (arith, x.2, c.if-at-text.false)))

pub returns-then-opened-p : goal.returns-then-opened-p
returns-then-opened-p c =
    let t = c.args.text.now in
    let o = c.args.opened.now in
    let p = c.args.p in
    let r = c.requires in
    let x = c.skip_ws-at.ensures in
    let h : p.depth ≤ length o = omega (arith, r.room, r.inside.fits, r.inside.shallow) in
    let k = stack_top o p.depth (omega (arith, c.if-p-eq0.false)) h ∙ ap {B = List Bool} (λ b. b ∷ stack o (p.depth - 1)) c.if-opened-p.true in
    steps-as t o _ p.at _ _ _ x.1 (after-array t p.at c.skip_ws-at.result x.0 _ (number_of p.found) _ k) (c.item_step.ensures o _ h k)

pub returns-else-opened-p : goal.returns-else-opened-p
returns-else-opened-p c =
    let t = c.args.text.now in
    let o = c.args.opened.now in
    let p = c.args.p in
    let r = c.requires in
    let x = c.skip_ws-at.ensures in
    let h : p.depth ≤ length o = omega (arith, r.room, r.inside.fits, r.inside.shallow) in
    let k = stack_top o p.depth (omega (arith, c.if-p-eq0.false)) h ∙ ap {B = List Bool} (λ b. b ∷ stack o (p.depth - 1)) c.if-opened-p.false in
    steps-as t o _ p.at _ _ _ x.1 (after-object t p.at c.skip_ws-at.result x.0 _ (number_of p.found) _ k) (c.member_step.ensures o _ h k)
