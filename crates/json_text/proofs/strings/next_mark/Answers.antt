use borrow.Author.Rules.{rules}
use mathlib.Core.Path.{◌≡◌, sym, ◌∙◌}
use native.Mathlib.Omega.{arith}
use lib.ListN.{length, drop}
use Rattle.json_text.proofs.Marks.{to_end, to-mark, to-slash, to-on}
use Rattle.json_text.specs.Work.{to_mark}
use Rattle.json_text.proofs.strings.next_mark.Goals as goal
use Rattle.json_text.proofs.strings.next_mark.Goals.{then-text-i-eq34-via-then-text-i-eq34, then-text-i-eq34-via-else-text-i-eq34+then-text-i-eq92}

pub returns-then-text-i-eq34 : goal.returns-then-text-i-eq34
returns-then-text-i-eq34 c =
    let t = c.args.text.now in
    let here : to_mark (drop c.loop-i.i t) ≡ drop c.loop-i.i t =
    elim c.then-text-i-eq34.branch [
      | then-text-i-eq34-via-then-text-i-eq34 w ↦ to-mark t _ c.loop-i-test.true w.if-text-i-eq34.true
      | then-text-i-eq34-via-else-text-i-eq34+then-text-i-eq92 w ↦ to-slash t _ c.loop-i-test.true w.if-text-i-eq92.true
    ] in
    (sym (c.loop-i.invariant ∙ here), search rules, search rules)

pub loop-i-preserved : goal.loop-i-preserved
loop-i-preserved c = c.loop-i.invariant ∙ to-on _ _ c.loop-i-test.true (λ e. omega arith) (λ e. omega arith)

pub returns : goal.returns
returns c =
    let t = c.args.text.now in
    let end : length t ≡ c.loop-i.i = omega arith in
    (rw end (sym (c.loop-i.invariant ∙ to_end t _ c.loop-i-test.false)), search rules, search rules)
