use Rattle.json_text.proofs.Bounds.{byte-at, byte_past}
use mathlib.Core.Path.{◌∙◌, sym}
use Rattle.json_text.proofs.bytes.byte.Goals as goal

pub returns-then-at-text : goal.returns-then-at-text
returns-then-at-text c = c.from.ensures ∙ byte-at c.args.text.now _ c.if-at-text.true

pub returns-else-at-text : goal.returns-else-at-text
returns-else-at-text c = sym (byte_past c.args.text.now _ c.if-at-text.false)
