use Rattle.std.specs.Prelude.{Some}
use borrow.Author.Rules.{rules}
use mathlib.Core.Path.{sym, ◌∙◌, ap}
use Rattle.json_text.proofs.EndLaws.{ends_at, ends_nowhere}
use Rattle.json_text.proofs.NameSteps.{colon-yes, colon-no}
use Rattle.json_text.proofs.Places.{place-behind}
use Rattle.json_text.proofs.names.colon_end.Goals as goal

pub skip_ws-requires : goal.skip_ws-requires
skip_ws-requires c =
    place-behind c.args.text.now _ _ c.byte.ensures (search rules)

pub returns-then-byte-eq58 : goal.returns-then-byte-eq58
returns-then-byte-eq58 c =
    let t = c.args.text.now in
    let p = colon-yes t _ _ c.byte.ensures c.if-byte-eq58.true in
    ends_at t _ _ (p ∙ ap Some (sym c.skip_ws.ensures.0)) (search rules) (search rules)

pub returns-else-byte-eq58 : goal.returns-else-byte-eq58
returns-else-byte-eq58 c =
    let t = c.args.text.now in
    ends_nowhere t _ (colon-no t _ _ c.byte.ensures c.if-byte-eq58.false)
