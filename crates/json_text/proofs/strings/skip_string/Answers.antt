use borrow.Author.Rules.{rules}
use mathlib.Core.Path.{refl, sym, ◌∙◌}
use Prim.Native.Nat.{◌≤◌}
use native.Mathlib.Omega.{arith}
use lib.ListN.{length}
use Rattle.json_text.proofs.Marks.{rest-marks, marks-found, marks-past, marks-closed, marks-behind, marks-last}
use Rattle.json_text.proofs.Tests.{same, no-some}
use Rattle.json_text.proofs.strings.skip_string.Goals as goal

pub returns-then-i-text : goal.returns-then-i-text
returns-then-i-text c =
    let t = c.args.text.now in
    let past : length t ≤ c.next_mark-i.result = omega arith in
    let m = c.loop-i.invariant.0 ∙ (marks-found _ _ c.next_mark-i.ensures.0 ∙ marks-past t _ past) in
    (search rules, search rules, λ s e. no-some (sym m ∙ rest-marks _ s e))

pub returns-then-text-i-eq34 : goal.returns-then-text-i-eq34
returns-then-text-i-eq34 c =
    let m = marks-closed _ _ c.next_mark-i.result c.next_mark-i.ensures.0 (omega arith) (omega arith) in
    (search rules, search rules, λ s e. same (sym (c.loop-i.invariant.0 ∙ m) ∙ rest-marks _ s e))

-- a backslash and the byte behind it
pub loop-i-preserved-then-i-text-2 : goal.loop-i-preserved-then-i-text-2
loop-i-preserved-then-i-text-2 c =
    let m = marks-behind _ _ c.next_mark-i.result c.next_mark-i.ensures.0 (omega arith) (λ e. omega arith) in
    (c.loop-i.invariant.0 ∙ m, search rules, search rules)

-- a backslash that is the last byte
pub loop-i-preserved : goal.loop-i-preserved
loop-i-preserved c =
    let m = marks-last _ _ c.next_mark-i.result c.next_mark-i.ensures.0 (omega arith) c.if-i-text-2.false (λ e. omega arith) in
    (c.loop-i.invariant.0 ∙ m, search rules, search rules)

pub returns : goal.returns
returns c =
    let m = c.loop-i.invariant.0 ∙ marks-past _ _ c.loop-i-test.false in
    (search rules, search rules, λ s e. no-some (sym m ∙ rest-marks _ s e))

pub loop-i-init : goal.loop-i-init
loop-i-init c = (refl, search rules, search rules)
