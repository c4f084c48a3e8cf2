use borrow.Author.Rules.{rules}
use mathlib.Core.Path.{◌≡◌, sym, ◌∙◌}
use mathlib.Core.Bool.{true, false}
use native.Mathlib.Omega.{arith}
use lib.ListN.{length}
use Rattle.json_text.specs.Bytes.{is_digit}
use Rattle.json_text.specs.Work.{byte_at}
use Rattle.json_text.proofs.DigitSteps.{digits-on, digits-here, digits-end}
use Rattle.json_text.proofs.numbers.digits_end.Goals as goal

pub returns-then-not-is_digit : goal.returns-then-not-is_digit
returns-then-not-is_digit c =
    let t = c.args.text.now in
    let none : is_digit (byte_at t c.loop-i.i) ≡ false = cc (c.if-not-is_digit.true) in
    (sym (c.loop-i.invariant ∙ digits-here t _ c.loop-i-test.true none), search rules, search rules)

pub loop-i-preserved : goal.loop-i-preserved
loop-i-preserved c =
    let t = c.args.text.now in
    let one : is_digit (byte_at t c.loop-i.i) ≡ true = cc (c.if-not-is_digit.false) in
    c.loop-i.invariant ∙ digits-on t _ c.loop-i-test.true one

pub returns : goal.returns
returns c =
    let t = c.args.text.now in
    let end : length t ≡ c.loop-i.i = omega arith in
    (rw end (sym (c.loop-i.invariant ∙ digits-end t _ c.loop-i-test.false)), search rules, search rules)
