use borrow.Author.Rules.{rules}
use mathlib.Core.Path.{sym, ◌∙◌, ap}
use Rattle.json_text.specs.Work.{colon_rest}
use Rattle.json_text.proofs.EndLaws.{ends_as, ends_nowhere, ends-nowhere-reads, ends-at-reads, ends-at-beyond}
use Rattle.json_text.proofs.NameSteps.{name-no-mark, name-no-string, name-colon}
use Rattle.json_text.proofs.Places.{place-behind}
use Rattle.json_text.proofs.names.name_end.Goals as goal

pub returns-then-byte-ne34 : goal.returns-then-byte-ne34
returns-then-byte-ne34 c =
    let t = c.args.text.now in
    ends_nowhere t _ (name-no-mark t _ _ c.byte.ensures c.if-byte-ne34.true)

pub string_end-requires : goal.string_end-requires
string_end-requires c =
    (place-behind c.args.text.now _ _ c.byte.ensures (search rules), search rules)

pub returns-in_err-end : goal.returns-in_err-end
returns-in_err-end c =
    let t = c.args.text.now in
    let n = ends-nowhere-reads t _ _ _ c.string_end.ensures c.in_err-end.was in
    rw c.from_residual.ensures (ends_nowhere t _ (name-no-string t _ _ c.byte.ensures c.if-byte-ne34.false n))

pub skip_ws-requires : goal.skip_ws-requires
skip_ws-requires c =
    let t = c.args.text.now in
    (ends-at-beyond t _ _ _ c.string_end.ensures _ c.in_ok-end.was).1

pub returns : goal.returns
returns c =
    let t = c.args.text.now in
    let q = ends-at-beyond t _ _ _ c.string_end.ensures _ c.in_ok-end.was in
    let r = ends-at-reads t _ _ _ c.string_end.ensures _ c.in_ok-end.was in
    let m = name-colon t _ _ c.byte.ensures c.in_ok-end.end c.if-byte-ne34.false r ∙ ap colon_rest (sym c.skip_ws.ensures.0) in
    ends_as t _ _ _ _ _ (search rules) m c.colon_end.ensures
