use borrow.Author.Rules.{rules}
use mathlib.Core.Path.{◌∙◌, sym, ap}
use Rattle.std.specs.Option.{is_some}
use Rattle.json_text.proofs.AllowedLaws.{minus-refused, digits_allowed}
use Rattle.json_text.proofs.numbers.number_allowed.Goals as goal

pub returns-in-None : goal.returns-in-None
returns-in-None c =
    let a = c.args in
    sym (minus-refused a.text.now a.from a.to (search rules) (search rules) c.if-text-from-eq45.true (cc))

pub returns-else-text-from-eq45 : goal.returns-else-text-from-eq45
returns-else-text-from-eq45 c =
    let a = c.args in
    c.is_some.ensures ∙ ap is_some c.decimal_of-else-text-from-eq45.ensures
    ∙ sym (digits_allowed a.text.now a.from a.to (search rules) (search rules) c.if-text-from-eq45.false)
