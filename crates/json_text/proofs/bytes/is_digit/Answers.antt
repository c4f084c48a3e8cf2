use borrow.Author.Rules.{rules}
use Rattle.json_text.specs.Bytes.{is_digit}
use Rattle.json_text.proofs.bytes.is_digit.Goals as goal

pub returns : goal.returns
unfolding is_digit
returns c = search rules
