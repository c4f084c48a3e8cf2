use Rattle.moves.proofs.LiningLaws.{line-up-ready, lined-up, not-lined-up}
use Rattle.moves.proofs.lining_up.try_align.Goals as goal

pub line_up-requires : goal.line_up-requires
line_up-requires c =
    line-up-ready c.args.quiet c.args.i c.args.t _ c.requires.0 c.requires.1 c.in-Some.ensures

pub returns-in-Some : goal.returns-in-Some
returns-in-Some c =
    lined-up c.args.quiet c.args.i c.args.t _ c.in-Some.ensures c.line_up.ensures

pub returns-in-None : goal.returns-in-None
returns-in-None c =
    not-lined-up c.args.quiet c.args.i c.args.t c.requires.0 c.in-None.ensures
