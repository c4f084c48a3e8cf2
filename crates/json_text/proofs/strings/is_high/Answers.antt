use borrow.Author.Rules.{rules}
use Rattle.json_text.specs.Bytes.{is_high}
use Rattle.json_text.proofs.strings.is_high.Goals as goal

pub returns : goal.returns
unfolding is_high
returns c = search rules
