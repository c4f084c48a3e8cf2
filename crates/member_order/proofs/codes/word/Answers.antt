use Rattle.member_order.specs.Names.{name_in}
use Rattle.member_order.proofs.CodeSteps.{word_of}
use Rattle.member_order.proofs.codes.word.Goals as goal

pub returns : goal.returns
returns c = word_of (name_in c.args.names.now) c.args.place c.code.result c.requires c.code.ensures
