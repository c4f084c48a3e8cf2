use borrow.Author.Rules.{rules}
use Rattle.json_text.proofs.EndLaws.{ends_at, ends_as}
use Rattle.json_text.proofs.NumberSteps.{frac-yes, frac-no}
use Rattle.json_text.proofs.Places.{place-behind}
use Rattle.json_text.proofs.numbers.frac_end.Goals as goal

pub digits1_end-requires : goal.digits1_end-requires
digits1_end-requires c =
    place-behind c.args.text.now _ _ c.byte.ensures (search rules)

pub returns-then-byte-eq46 : goal.returns-then-byte-eq46
returns-then-byte-eq46 c =
    let t = c.args.text.now in
    let p = frac-yes t _ _ c.byte.ensures c.if-byte-eq46.true in
    ends_as t _ _ _ _ _ (search rules) p c.digits1_end.ensures

pub returns-else-byte-eq46 : goal.returns-else-byte-eq46
returns-else-byte-eq46 c =
    let t = c.args.text.now in
    ends_at t _ _ (frac-no t _ _ c.byte.ensures c.if-byte-eq46.false) (search rules) (search rules)
