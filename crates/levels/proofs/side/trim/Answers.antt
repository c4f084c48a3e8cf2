use mathlib.Core.Path.{sym}
use Rattle.levels.specs.Depth.{trim_side}
use Rattle.levels.proofs.Reversed.{trim-reverse}
use Rattle.levels.proofs.side.trim.Goals as goal

pub returns-in-Some : goal.returns-in-Some
returns-in-Some c = λ ss.
    rw c.in-Some.is (sym (trim-reverse _ ss c.args.bid _ _ _ c.through.ensures))

pub returns-in-None : goal.returns-in-None
unfolding trim_side
returns-in-None c = λ ss. rw c.in-None.is
