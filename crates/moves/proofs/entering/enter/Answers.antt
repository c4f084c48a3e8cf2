use Rattle.moves.proofs.EnterLaws.{drop-ready, set-ready, enter-done}
use Rattle.moves.proofs.entering.enter.Goals as goal

pub drop_prints-requires : goal.drop_prints-requires
drop_prints-requires c =
    drop-ready c.args.i c.requires c.release_prints-m.ensures

pub set_line-requires : goal.set_line-requires
set_line-requires c =
    set-ready c.args.i c.requires c.release_prints-m.ensures c.drop_prints.ensures

pub returns : goal.returns
returns c =
    enter-done c.args.i c.requires c.release_prints-m.ensures c.drop_prints.ensures c.args.line c.set_line.ensures
