use borrow.Author.Rules.{rules}
use native.Mathlib.Omega.{arith}
use Prim.Native.Nat.{◌+◌, ◌-◌, ◌*◌, ◌^◌, ◌≤◌}
use mathlib.Core.Path.{◌≡◌, sym, ◌∙◌, ap}
use Rattle.json_text.proofs.Tests.{digit_low}
use Rattle.json_text.proofs.DecimalLaws.{decimal_from, decimal-first, decimal-large, decimal-none, decimal-on, decimal-stop, part_end}
use Rattle.json_text.proofs.numbers.decimal_of.Goals as goal

pub returns-then-not-is_digit : goal.returns-then-not-is_digit
returns-then-not-is_digit c =
    let a = c.args in
    let d = sym c.is_digit.ensures ∙ c.if-not-is_digit.true in
    let e = c.byte-b.ensures in
    sym (c.loop-i.invariant.0 ∙ decimal-stop a.text.now c.loop-i.i a.to c.loop-i.n _ e (search rules) (search rules) d)

pub overflow_sub-b : goal.overflow_sub-b
overflow_sub-b c =
    let d = sym c.is_digit.ensures ∙ c.if-not-is_digit.false in
    digit_low c.byte-b.result d

pub returns-in_err-checked_mul : goal.returns-in_err-checked_mul
returns-in_err-checked_mul c =
    let a = c.args in
    let d = sym c.is_digit.ensures ∙ c.if-not-is_digit.false in
    let e = c.byte-b.ensures in
    let over : 2 ^ 64 ≤ c.loop-i.n * 10 + (c.byte-b.result - 0x30) = omega (arith, c.in_err-checked_mul.ensures) in
    c.from_residual.ensures ∙ sym (c.loop-i.invariant.0 ∙ decimal-large a.text.now c.loop-i.i a.to c.loop-i.n _ e (search rules) (search rules) d over)

pub returns-in_err-n : goal.returns-in_err-n
returns-in_err-n c =
    let a = c.args in
    let d = sym c.is_digit.ensures ∙ c.if-not-is_digit.false in
    let e = c.byte-b.ensures in
    let over : 2 ^ 64 ≤ c.loop-i.n * 10 + (c.byte-b.result - 0x30) = omega (arith, c.in_err-n.ensures, c.in_ok-checked_mul.ensures) in
    c.from_residual-in_err-n.ensures ∙ sym (c.loop-i.invariant.0 ∙ decimal-large a.text.now c.loop-i.i a.to c.loop-i.n _ e (search rules) (search rules) d over)

pub loop-i-preserved : goal.loop-i-preserved
loop-i-preserved c =
    let a = c.args in
    let d = sym c.is_digit.ensures ∙ c.if-not-is_digit.false in
    let e = c.byte-b.ensures in
    let next : c.in_ok-n.n ≡ c.loop-i.n * 10 + (c.byte-b.result - 0x30) = omega (arith, c.in_ok-n.ensures, c.in_ok-checked_mul.ensures) in
    (rw next (c.loop-i.invariant.0 ∙ decimal-on a.text.now c.loop-i.i a.to c.loop-i.n _ e (search rules) (search rules) d), omega (arith, c.in_ok-n.ensures))

pub returns : goal.returns
returns c =
    let a = c.args in
    let p = ap (decimal_from c.loop-i.n) (part_end a.text.now c.loop-i.i a.to c.loop-i-test.false) in
    sym (c.loop-i.invariant.0 ∙ p ∙ decimal-none c.loop-i.n c.loop-i.invariant.1)

pub loop-i-init : goal.loop-i-init
loop-i-init c = (decimal-first _, search rules)
