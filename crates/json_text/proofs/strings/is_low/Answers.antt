use borrow.Author.Rules.{rules}
use Rattle.json_text.specs.Bytes.{is_low}
use Rattle.json_text.proofs.strings.is_low.Goals as goal

pub returns : goal.returns
unfolding is_low
returns c = search rules
