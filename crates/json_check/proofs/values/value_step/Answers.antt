use lib.ListN.{drop}
use Rattle.json_check.specs.Runs.{of_value, of_number}
use Rattle.json_check.specs.Steps.{stack}
use mathlib.Core.Path.{◌≡◌, sym, ◌∙◌}
use native.Mathlib.Omega.{arith}
use Rattle.json_text.proofs.Places.{place-behind}
use Rattle.json_check.specs.Numbers.{number_of}
use Rattle.json_check.proofs.Stacks.{stack-length}
use Rattle.json_check.proofs.StepLaws.{steps-as}
use Rattle.json_check.proofs.ValueSteps.{value-string, value-minus, value-digit, value-array, value-object, value-literal}
use Rattle.json_check.proofs.values.value_step.Goals as goal
use Rattle.json_check.proofs.values.value_step.Goals.{then-b-eq45-via-then-b-eq45, then-b-eq45-via-else-b-eq45+then-is_digit}

pub string_step-requires : goal.string_step-requires
string_step-requires c =
    let i = place-behind c.args.text.now _ _ c.byte-b.ensures (omega (arith, c.if-b-eq34.true)) in
    (c.requires.inside, omega arith, c.requires.short)

pub returns-then-b-eq34 : goal.returns-then-b-eq34
returns-then-b-eq34 c =
    let t = c.args.text.now in
    let o = c.args.opened.now in
    let p = c.args.p in
    let v = value-string t p.at _ c.byte-b.ensures _ (number_of p.found) c.if-b-eq34.true in
    steps-as t o p.at p.at _ _ _ (omega arith) v (c.string_step.ensures o)

pub returns-then-b-eq45 : goal.returns-then-b-eq45
returns-then-b-eq45 c =
    let t = c.args.text.now in
    let o = c.args.opened.now in
    let p = c.args.p in
    let v : of_value (stack o p.depth) (drop p.at t) (number_of p.found) ≡ of_number (stack o p.depth) (drop p.at t) (number_of p.found) =
    elim c.then-b-eq45.branch [
      | then-b-eq45-via-then-b-eq45 w ↦ value-minus t p.at _ c.byte-b.ensures _ (number_of p.found) w.if-b-eq45.true
      | then-b-eq45-via-else-b-eq45+then-is_digit w ↦
          value-digit t p.at _ c.byte-b.ensures _ (number_of p.found) c.if-b-eq34.false w.if-b-eq45.false (sym w.is_digit.ensures ∙ w.if-is_digit.true)
    ] in
    steps-as t o p.at p.at _ _ _ (omega arith) v (c.number_step.ensures o)

pub array_step-requires : goal.array_step-requires
array_step-requires c =
    let i = place-behind c.args.text.now _ _ c.byte-b.ensures (omega (arith, c.if-b-eq91.true)) in
    (c.requires, omega arith)

pub returns-then-b-eq91 : goal.returns-then-b-eq91
returns-then-b-eq91 c =
    let t = c.args.text.now in
    let p = c.args.p in
    let r = c.requires in
    let k = stack-length c.args.opened.now p.depth (omega (arith, r.room, r.inside.fits, r.inside.shallow)) in
    let v = value-array t p.at _ c.byte-b.ensures _ (number_of p.found) _ k c.if-b-eq91.true in
    steps-as t _ p.at p.at _ _ _ (omega arith) v c.array_step.ensures

pub object_step-requires : goal.object_step-requires
object_step-requires c =
    let i = place-behind c.args.text.now _ _ c.byte-b.ensures (omega (arith, c.if-b-eq123.true)) in
    (c.requires, omega arith)

pub returns-then-b-eq123 : goal.returns-then-b-eq123
returns-then-b-eq123 c =
    let t = c.args.text.now in
    let p = c.args.p in
    let r = c.requires in
    let k = stack-length c.args.opened.now p.depth (omega (arith, r.room, r.inside.fits, r.inside.shallow)) in
    let v = value-object t p.at _ c.byte-b.ensures _ (number_of p.found) _ k c.if-b-eq123.true in
    steps-as t _ p.at p.at _ _ _ (omega arith) v c.object_step.ensures

pub returns : goal.returns
returns c =
    let t = c.args.text.now in
    let o = c.args.opened.now in
    let p = c.args.p in
    let x = sym c.is_digit.ensures ∙ c.if-is_digit.false in
    let v =
    value-literal t p.at _ c.byte-b.ensures _ (number_of p.found)
    c.if-b-eq34.false c.if-b-eq45.false x c.if-b-eq91.false c.if-b-eq123.false
    in
    steps-as t o p.at p.at _ _ _ (omega arith) v (c.literal_step.ensures o)
