use mathlib.Core.Path.{sym, ap, ◌∙◌}
use mathlib.Core.Bool.{not}
use lib.Dec.{ltb}
use lib.ListN.{length}
use borrow.Author.Rules.{rules}
use borrow.Author.Tests.{tests, ne_eqb}
use Rattle.std.proofs.lemmas.Iterator.{YieldsList-from_slice}
use Rattle.std.proofs.lemmas.Iterator.Search.{any_from_yields_List}
use Rattle.steps.proofs.StepLaws.{any-is, bad-by-one, bad-by-count}
use Rattle.steps.proofs.bad_answers.Goals as goal

pub returns-then-answers-count : goal.returns-then-answers-count
returns-then-answers-count c =
    let a = c.args in
    ap not (ne_eqb (length a.answers.now) c.count.result c.if-answers-count.true)
    ∙ bad-by-count a.s.now a.answers.now (λ e. c.if-answers-count.true (e ∙ sym c.count.ensures))

pub returns-else-answers-count : goal.returns-else-answers-count
returns-else-answers-count c =
    let a = c.args in
    bad-by-one a.s.now a.answers.now (c.if-answers-count.false ∙ c.count.ensures) c.any.result
    (any_from_yields_List (ltb 1) _ _ c.any.result c.any.ensures.ran (YieldsList-from_slice a.answers.now cc) (λ x b q k. search (rules, tests)) ∙ any-is (ltb 1) a.answers.now)
