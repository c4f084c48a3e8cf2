use mathlib.Core.Path.{sym, ◌∙◌}
use native.Mathlib.Omega.{arith}
use Rattle.setup.proofs.SetupLaws.{setup-done, setup-short, setup-outside}
use Rattle.setup.proofs.setup.Goals as goal

pub returns-then-not-in_range : goal.returns-then-not-in_range
returns-then-not-in_range c = let a = c.args in setup-outside a.l a.start a.s.now (sym c.in_range.ensures ∙ c.if-not-in_range.true)

pub returns-then-s-words_needed : goal.returns-then-s-words_needed
returns-then-s-words_needed c =
    let a = c.args in
    let k = c.words_needed.ensures in
    setup-short a.l a.start a.s.now (sym c.in_range.ensures ∙ c.if-not-in_range.false) (omega arith)

pub returns : goal.returns
returns c =
    let p = c.put_header in
    let a = c.args in
    let k = c.words_needed.ensures in
    setup-done a.l a.start a.s.now (sym c.in_range.ensures ∙ c.if-not-in_range.false) (omega arith) (omega arith) _ p.auto.s p.ensures
