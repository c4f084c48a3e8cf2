use borrow.Author.Rules.{rules}
use Rattle.json_text.proofs.NumberSteps.{sign-minus, sign-plus, sign-no}
use Rattle.json_text.proofs.Places.{place-behind}
use Rattle.json_text.proofs.numbers.after_sign.Goals as goal
use Rattle.json_text.proofs.numbers.after_sign.Goals.{then-b-eq45-via-then-b-eq45, then-b-eq45-via-else-b-eq45+then-b-eq43}

pub returns-then-b-eq45 : goal.returns-then-b-eq45
returns-then-b-eq45 c =
    let t = c.args.text.now in
    let e = c.byte-b.ensures in
    elim c.then-b-eq45.branch [
      | then-b-eq45-via-then-b-eq45 w ↦ (sign-minus t _ _ e w.if-b-eq45.true, search rules, place-behind t _ _ e (search rules))
      | then-b-eq45-via-else-b-eq45+then-b-eq43 w ↦ (sign-plus t _ _ e w.if-b-eq43.true, search rules, place-behind t _ _ e (search rules))
    ]

pub returns : goal.returns
returns c =
    let t = c.args.text.now in
    (sign-no t _ _ c.byte-b.ensures c.if-b-eq45.false c.if-b-eq43.false, search rules, search rules)
