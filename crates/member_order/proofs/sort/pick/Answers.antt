use native.Mathlib.Omega.{arith}
use Rattle.member_order.specs.Codes.{name_of, Coded}
use Rattle.member_order.specs.Names.{name_in}
use Rattle.member_order.proofs.Picking.{picks-right, picks-left, picks_by}
use Rattle.member_order.proofs.Runs.{each-run}
use Rattle.member_order.proofs.sort.pick.Goals as goal

pub returns-then-i-a : goal.returns-then-i-a
returns-then-i-a c =
    picks-right (name_of (name_in c.args.names.now)) c.args.words.now _ _ _ _ c.requires.0 c.requires.1 _ _ (omega arith) (omega arith)

pub returns-then-j-b : goal.returns-then-j-b
returns-then-j-b c =
    picks-left (name_of (name_in c.args.names.now)) c.args.words.now _ _ _ _ c.requires.0 c.requires.1 c.requires.5 _ _ (omega arith) (omega arith)

pub choose-requires : goal.choose-requires
choose-requires c =
    let w = c.args.words.now in
    let P = Coded (name_in c.args.names.now) in (
      omega arith,
      omega arith,
      each-run w _ _ c.requires.0 P c.requires.7 _ (omega arith),
      each-run w _ _ c.requires.1 P c.requires.8 _ (omega arith),
    )

pub returns : goal.returns
returns c =
    picks_by (name_of (name_in c.args.names.now)) c.args.words.now _ _ _ _ c.requires.0 c.requires.1 c.requires.5 c.requires.6 _ _ (omega arith) (omega arith)
    _ c.choose.ensures
