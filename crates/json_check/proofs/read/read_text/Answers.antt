-- What is found from the step on is found from the start of the text on. The measure is what is left to read.
use borrow.Author.Rules.{rules}
use mathlib.Core.Path.{refl}
use native.Mathlib.Omega.{arith}
use Rattle.std.proofs.lemmas.Result.{err_from_is_err_and}
use Rattle.json_check.proofs.Answers.{judged-text, refused-as}
use Rattle.json_check.proofs.Readings.{starts, value_on, after_on}
use Rattle.json_check.proofs.Readings.{reached-value, reached-after, reached-done}
use Rattle.json_check.proofs.read.read_text.Goals as goal

pub skip_ws-requires : goal.skip_ws-requires
skip_ws-requires c = search rules

pub loop-step-init : goal.loop-step-init
loop-step-init c =
    let x = c.skip_ws.ensures in
    (refl, starts c.args.text.now c.args.opened.now c.skip_ws.result x.0 x.2)

pub value_step-requires : goal.value_step-requires
value_step-requires c =
    let i = reached-value c.args.text.now _ _ c.loop-step.invariant.1 _ c.in-Value.is in
    record { inside = i; short = c.requires.0; room = omega (arith, c.requires.1, c.loop-step.invariant.0) }

pub after_step-requires : goal.after_step-requires
after_step-requires c =
    let i = reached-after c.args.text.now _ _ c.loop-step.invariant.1 _ c.in-After.is in
    record { inside = i; short = c.requires.0; room = omega (arith, c.requires.1, c.loop-step.invariant.0) }

pub shape_of-opened-in-Done : goal.shape_of-opened-in-Done
shape_of-opened-in-Done c = c.loop-step.invariant.0

pub returns-in-Done : goal.returns-in-Done
returns-in-Done c =
    let t = c.args.text.now in
    judged-text t _ c.requires.0 (reached-done t _ _ c.loop-step.invariant.1 _ c.in-Done.is)

pub returns-in_err-step-in-Value : goal.returns-in_err-step-in-Value
returns-in_err-step-in-Value c =
    let t = c.args.text.now in
    let z = value_on t c.loop-step.opened _ _ c.loop-step.step _ c.in-Value.is c.value_step.ensures c.loop-step.invariant.1 in
    let e = c.in_err-step-in-Value.ensures in
    let v = rw e.ok_part at e.value in
    let p = err_from_is_err_and c.from_residual.result c.from_residual.ensures.1 in
    rw (p.1, p.2) (refused-as t _ v (rw e.ok_part at z))

pub loop-step-preserved-in-Value : goal.loop-step-preserved-in-Value
loop-step-preserved-in-Value c =
    let t = c.args.text.now in
    let z = value_on t c.loop-step.opened _ _ c.loop-step.step _ c.in-Value.is c.value_step.ensures c.loop-step.invariant.1 in
    (search rules, rw c.in_ok-step-in-Value.ensures.ok_part at z)

pub returns-in_err-step-in-After : goal.returns-in_err-step-in-After
returns-in_err-step-in-After c =
    let t = c.args.text.now in
    let z = after_on t c.loop-step.opened _ _ c.loop-step.step _ c.in-After.is c.after_step.ensures c.loop-step.invariant.1 in
    let e = c.in_err-step-in-After.ensures in
    let v = rw e.ok_part at e.value in
    let p = err_from_is_err_and c.from_residual-in_err-step-in-After.result c.from_residual-in_err-step-in-After.ensures.1 in
    rw (p.1, p.2) (refused-as t _ v (rw e.ok_part at z))

pub loop-step-preserved : goal.loop-step-preserved
loop-step-preserved c =
    let t = c.args.text.now in
    let z = after_on t c.loop-step.opened _ _ c.loop-step.step _ c.in-After.is c.after_step.ensures c.loop-step.invariant.1 in
    (search rules, rw c.in_ok-step-in-After.ensures.ok_part at z)
