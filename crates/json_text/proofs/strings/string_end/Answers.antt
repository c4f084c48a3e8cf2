use borrow.Author.Rules.{rules}
use mathlib.Core.Path.{refl, sym, ◌∙◌}
use native.Mathlib.Omega.{arith}
use Rattle.json_text.specs.Bytes.{plain}
use Rattle.json_text.proofs.EndLaws.{ends_nowhere}
use Rattle.json_text.proofs.Lengths.{char-plain}
use Rattle.json_text.proofs.StringSteps.{chars-over, chars-closed, chars-stuck, chars-on, special-step}
use Rattle.json_text.proofs.Tests.{test_of}
use Rattle.json_text.proofs.strings.string_end.Goals as goal

pub returns-then-text-i-eq34 : goal.returns-then-text-i-eq34
returns-then-text-i-eq34 c =
    record { rest = sym (c.loop-i.invariant.0 ∙ chars-closed _ _ c.loop-i-test.true (omega arith)); beyond = search rules }

pub loop-i-preserved-then-plain : goal.loop-i-preserved-then-plain
loop-i-preserved-then-plain c =
    let t = c.args.text.now in
    let i = c.loop-i.i in
    let n = char-plain t i (test_of plain c.plain.ensures c.byte.ensures c.if-plain.true) in
    (c.loop-i.invariant.0 ∙ chars-on t i c.loop-i-test.true (λ e. omega arith) n (λ z. omega arith), search rules, search rules)

pub returns-in_err-i : goal.returns-in_err-i
returns-in_err-i c =
    let t = c.args.text.now in
    let i = c.loop-i.i in
    let n = special-step t i c.loop-i-test.true 0 (test_of plain c.plain.ensures c.byte.ensures c.if-plain.false) c.in_err-i.ensures in
    let s = chars-stuck t i c.loop-i-test.true (λ e. omega arith) n.0 refl in
    rw c.from_residual.ensures (ends_nowhere t _ (c.loop-i.invariant.0 ∙ s))

pub overflow_add-i-else-plain : goal.overflow_add-i-else-plain
overflow_add-i-else-plain c =
    let t = c.args.text.now in
    let n = special-step t c.loop-i.i c.loop-i-test.true _ (test_of plain c.plain.ensures c.byte.ensures c.if-plain.false) c.in_ok-i.ensures.0 in
    omega (arith, n.1)

pub loop-i-preserved : goal.loop-i-preserved
loop-i-preserved c =
    let t = c.args.text.now in
    let i = c.loop-i.i in
    let n = special-step t i c.loop-i-test.true _ (test_of plain c.plain.ensures c.byte.ensures c.if-plain.false) c.in_ok-i.ensures.0 in
    let s = chars-on t i c.loop-i-test.true (λ e. omega arith) n.0 (λ z. omega (arith, c.in_ok-i.ensures)) in
    (c.loop-i.invariant.0 ∙ s, search rules, n.1)

pub returns : goal.returns
returns c =
    record { rest = sym (c.loop-i.invariant.0 ∙ chars-over _ _ c.loop-i-test.false); beyond = tt }

pub loop-i-init : goal.loop-i-init
loop-i-init c = (refl, search rules, search rules)
