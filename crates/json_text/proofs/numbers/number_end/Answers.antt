use borrow.Author.Rules.{rules}
use Rattle.json_text.proofs.EndLaws.{ends_as, ends_nowhere, ends-nowhere-reads, ends-at-reads, ends-at-beyond}
use Rattle.json_text.proofs.NumberSteps.{number-no-int, number-no-frac, number-exp}
use Rattle.json_text.proofs.numbers.number_end.Goals as goal

pub returns-in_err-whole : goal.returns-in_err-whole
returns-in_err-whole c =
    let t = c.args.text.now in
    let n = ends-nowhere-reads t _ _ _ c.int_end.ensures c.in_err-whole.was in
    rw c.from_residual.ensures (ends_nowhere t _ (number-no-int _ _ c.after_minus.ensures.0 n))

pub frac_end-requires : goal.frac_end-requires
frac_end-requires c =
    (ends-at-beyond c.args.text.now _ _ _ c.int_end.ensures _ c.in_ok-whole.was).1

pub returns-in_err-point : goal.returns-in_err-point
returns-in_err-point c =
    let t = c.args.text.now in
    let w = ends-at-reads t _ _ _ c.int_end.ensures _ c.in_ok-whole.was in
    let n = ends-nowhere-reads t _ _ _ c.frac_end.ensures c.in_err-point.was in
    rw c.from_residual-in_err-point.ensures (ends_nowhere t _ (number-no-frac _ _ c.after_minus.ensures.0 w n))

pub exp_end-requires : goal.exp_end-requires
exp_end-requires c =
    let t = c.args.text.now in
    (ends-at-beyond t _ _ _ c.frac_end.ensures _ c.in_ok-point.was).1

pub returns : goal.returns
returns c =
    let t = c.args.text.now in
    let w = ends-at-reads t _ _ _ c.int_end.ensures _ c.in_ok-whole.was in
    let b = ends-at-beyond t _ _ _ c.int_end.ensures _ c.in_ok-whole.was in
    let p = ends-at-reads t _ _ _ c.frac_end.ensures _ c.in_ok-point.was in
    let q = ends-at-beyond t _ _ _ c.frac_end.ensures _ c.in_ok-point.was in
    ends_as t _ _ _ _ _ (search rules) (number-exp _ _ c.after_minus.ensures.0 w p) c.exp_end.ensures
