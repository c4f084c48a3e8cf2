use borrow.Author.Rules.{rules}
use Rattle.json_text.specs.Bytes.{tail}
use Rattle.json_text.proofs.strings.tail.Goals as goal

pub returns : goal.returns
unfolding tail
returns c = search rules
