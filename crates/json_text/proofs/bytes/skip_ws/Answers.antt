use borrow.Author.Rules.{rules}
use mathlib.Core.Path.{◌≡◌, sym, ◌∙◌}
use mathlib.Core.Bool.{true, false}
use native.Mathlib.Omega.{arith}
use lib.ListN.{length}
use Rattle.json_text.specs.Bytes.{is_ws}
use Rattle.json_text.specs.Work.{byte_at}
use Rattle.json_text.proofs.Bounds.{byte-at}
use Rattle.json_text.proofs.Spaces.{skip-here, skip-on, skip-end}
use Rattle.json_text.proofs.bytes.skip_ws.Goals as goal

pub returns-then-not-is_ws : goal.returns-then-not-is_ws
returns-then-not-is_ws c =
    let t = c.args.text.now in
    let no : is_ws (byte_at t c.loop-i.i) ≡ false =
    cc (c.if-not-is_ws.true, byte-at t c.loop-i.i c.loop-i-test.true) in
    (sym (c.loop-i.invariant ∙ skip-here t _ c.loop-i-test.true no), search rules, search rules)

pub loop-i-preserved : goal.loop-i-preserved
loop-i-preserved c =
    let t = c.args.text.now in
    let yes : is_ws (byte_at t c.loop-i.i) ≡ true =
    cc (c.if-not-is_ws.false, byte-at t c.loop-i.i c.loop-i-test.true) in
    c.loop-i.invariant ∙ skip-on t _ c.loop-i-test.true yes

pub returns : goal.returns
returns c =
    let t = c.args.text.now in
    let end : length t ≡ c.loop-i.i = omega arith in
    (rw end (sym (c.loop-i.invariant ∙ skip-end t _ c.loop-i-test.false)), search rules, search rules)
