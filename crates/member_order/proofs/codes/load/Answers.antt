use mathlib.Core.Path.{◌≡◌}
use Prim.Native.Nat.{◌<◌}
use native.Mathlib.Omega.{arith}
use Rattle.member_order.specs.Codes.{WordOf}
use Rattle.member_order.specs.Names.{name_in}
use Rattle.member_order.proofs.Runs.{get_d-run, length_run}
use Rattle.member_order.proofs.Making.{made_none, made-here, made_more}
use Rattle.member_order.proofs.codes.load.Goals as goal

pub loop-i-init : goal.loop-i-init
loop-i-init c = made_none (WordOf (name_in c.args.names.now)) _ _

pub word-requires : goal.word-requires
word-requires c =
    let v = c.args.places.now in
    let i = c.loop-i.i in
    let h : i < c.args.n = omega arith in
    omega (
      arith,
      made-here (WordOf (name_in c.args.names.now)) v c.args.low i c.loop-i.places c.loop-i.invariant,
      get_d-run v c.args.low c.args.n i h,
      c.requires.1 i (omega (arith, length_run v c.args.low c.args.n c.requires.0)),
    )

pub loop-i-preserved : goal.loop-i-preserved
loop-i-preserved c =
    let m = c.loop-i.invariant in
    let R = WordOf (name_in c.args.names.now) in
    made_more R _ _ _ _ m _ (omega arith) (rw (made-here R _ _ _ _ m) at c.word.ensures)

pub shape_of-places : goal.shape_of-places
shape_of-places c = c.loop-i.invariant.size

pub returns : goal.returns
returns c =
    let b = c.loop-i in
    let q : b.i ≡ c.args.n = omega arith in
    rw q at b.invariant
