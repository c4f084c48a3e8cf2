use Rattle.std.specs.Prelude.{Some}
use borrow.Author.Rules.{rules}
use mathlib.Core.Path.{sym, ◌∙◌, ap}
use native.Mathlib.Omega.{arith}
use Rattle.json_text.proofs.Tests.{within-high}
use Rattle.json_text.proofs.EndLaws.{ends_at, ends_nowhere}
use Rattle.json_text.proofs.NumberSteps.{int-zero, int-more, int-none}
use Rattle.json_text.proofs.Places.{place-behind}
use Rattle.json_text.proofs.numbers.int_end.Goals as goal

pub returns-then-b-eq48 : goal.returns-then-b-eq48
returns-then-b-eq48 c =
    let t = c.args.text.now in
    let e = c.byte-b.ensures in
    ends_at t _ _ (int-zero t _ _ e c.if-b-eq48.true) (search rules) (place-behind t _ _ e (search rules))

pub digits_end-requires : goal.digits_end-requires
digits_end-requires c =
    let t = c.args.text.now in
    let b = c.byte-b.result in
    let k = sym c.within.ensures ∙ c.if-within.true in
    place-behind t _ b c.byte-b.ensures (omega (arith, within-high 0x31 0x39 b k))

pub returns-then-within : goal.returns-then-within
returns-then-within c =
    let t = c.args.text.now in
    let k = sym c.within.ensures ∙ c.if-within.true in
    let p = int-more t _ _ c.byte-b.ensures c.if-b-eq48.false k in
    ends_at t _ _ (p ∙ ap Some (sym c.digits_end.ensures.0)) (search rules) (search rules)

pub returns-else-within : goal.returns-else-within
returns-else-within c =
    let t = c.args.text.now in
    let k = sym c.within.ensures ∙ c.if-within.false in
    ends_nowhere t _ (int-none t _ _ c.byte-b.ensures c.if-b-eq48.false k)
