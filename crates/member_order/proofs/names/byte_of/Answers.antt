use Rattle.json_text.proofs.Bounds.{byte-at}
use Rattle.member_order.proofs.names.byte_of.Goals as goal

pub returns-then-place-text : goal.returns-then-place-text
returns-then-place-text c l h = byte-at c.args.text.now _ h
