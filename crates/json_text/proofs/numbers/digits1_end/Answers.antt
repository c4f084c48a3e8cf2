use Rattle.std.specs.Prelude.{Some}
use borrow.Author.Rules.{rules}
use mathlib.Core.Path.{sym, ◌∙◌, ap}
use Rattle.json_text.proofs.EndLaws.{ends_at, ends_nowhere}
use Rattle.json_text.proofs.NumberSteps.{digits1-yes, digits1-no, place-behind-digit}
use Rattle.json_text.proofs.numbers.digits1_end.Goals as goal

pub digits_end-requires : goal.digits_end-requires
digits_end-requires c =
    let t = c.args.text.now in
    place-behind-digit t _ _ c.byte.ensures (sym c.is_digit.ensures ∙ c.if-is_digit.true)

pub returns-then-is_digit : goal.returns-then-is_digit
returns-then-is_digit c =
    let t = c.args.text.now in
    let p = digits1-yes t _ _ c.byte.ensures (sym c.is_digit.ensures ∙ c.if-is_digit.true) in
    ends_at t _ _ (p ∙ ap Some (sym c.digits_end.ensures.0)) (search rules) (search rules)

pub returns-else-is_digit : goal.returns-else-is_digit
returns-else-is_digit c =
    let t = c.args.text.now in
    ends_nowhere t _ (digits1-no t _ _ c.byte.ensures (sym c.is_digit.ensures ∙ c.if-is_digit.false))
