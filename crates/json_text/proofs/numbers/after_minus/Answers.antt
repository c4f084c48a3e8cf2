use borrow.Author.Rules.{rules}
use Rattle.json_text.proofs.NumberSteps.{minus-yes, minus-no}
use Rattle.json_text.proofs.Places.{place-behind}
use Rattle.json_text.proofs.numbers.after_minus.Goals as goal

pub returns-then-byte-eq45 : goal.returns-then-byte-eq45
returns-then-byte-eq45 c =
    let t = c.args.text.now in
    let e = c.byte.ensures in
    (minus-yes t _ _ e c.if-byte-eq45.true, search rules, place-behind t _ _ e (search rules))

pub returns-else-byte-eq45 : goal.returns-else-byte-eq45
returns-else-byte-eq45 c =
    (minus-no c.args.text.now _ _ c.byte.ensures c.if-byte-eq45.false, search rules, search rules)
