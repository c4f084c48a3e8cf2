use borrow.Author.Rules.{rules}
use mathlib.Core.Path.{◌≡◌, ◌∙◌}
use Prim.Native.Nat.{◌+◌, ◌<◌}
use native.Mathlib.Nat.{add-zero}
use native.Mathlib.Omega.{arith}
use lib.ListN.{length}
use Rattle.json_text.proofs.Bounds.{byte-at}
use Rattle.json_text.proofs.EndLaws.{ends_at, ends_nowhere}
use Rattle.json_text.proofs.NameSteps.{word_on, word-stop, word-done}
use Rattle.json_text.proofs.Places.{place-behind}
use Rattle.json_text.proofs.names.word_end.Goals as goal

pub returns-then-byte : goal.returns-then-byte
returns-then-byte c =
    let a = c.args in
    let i = c.loop-i.i in
    let p = word-stop a.text.now a.word.now (a.at + i) i c.loop-i-test.true (λ q. c.if-byte.true (cc)) in
    ends_nowhere a.text.now _ (c.loop-i.invariant.0 ∙ p)

pub loop-i-preserved : goal.loop-i-preserved
loop-i-preserved c =
    let t = c.args.text.now in
    let w = c.args.word.now in
    let i = c.loop-i.i in
    let p = word_on t w (c.args.at + i) i c.loop-i-test.true (cc) in
    let small : c.byte.result < 256 = omega (arith, c.type_inv.word i, byte-at w i c.loop-i-test.true) in
    let next : c.args.at + (i + 1) ≡ c.args.at + i + 1 = omega arith in
    rw next (c.loop-i.invariant.0 ∙ p, place-behind t (c.args.at + i) _ c.byte.ensures small)

pub returns : goal.returns
returns c =
    let t = c.args.text.now in
    let w = c.args.word.now in
    let end : length w ≡ c.loop-i.i = omega arith in
    let p = word-done t w (c.args.at + c.loop-i.i) c.loop-i.i c.loop-i-test.false in
    rw end (ends_at t _ (c.args.at + c.loop-i.i) (c.loop-i.invariant.0 ∙ p) (search rules) (search rules))

pub loop-i-init : goal.loop-i-init
loop-i-init c = (rw add-zero, search rules)
