use mathlib.Core.Path.{◌≡◌, sym, ◌∙◌}
use native.Mathlib.Omega.{arith}
use lib.ListN.{length-set}
use Rattle.json_text.specs.Work.{byte_at}
use Rattle.writing.proofs.ScalarLaws.{some-room, null-wrote, true-room, true-wrote, false-room, false-wrote, is_false}
use Rattle.writing.proofs.write.write_literal.Goals as goal

pub bounds-out-pos : goal.bounds-out-pos
bounds-out-pos c = some-room _ _ _ _ c.requires.0

pub returns-then-b-eq110 : goal.returns-then-b-eq110
returns-then-b-eq110 c = let p = c.requires in null-wrote _ _ _ _ p.0 (sym p.1 ∙ c.if-b-eq110.true)

pub bounds-out-pos-2 : goal.bounds-out-pos-2
bounds-out-pos-2 c = some-room _ _ _ _ c.requires.0

pub bounds-out-pos-then-b-eq116 : goal.bounds-out-pos-then-b-eq116
bounds-out-pos-then-b-eq116 c =
    let p = c.requires in
    simp length-set (omega (arith, true-room _ _ _ _ p.0 (sym p.1 ∙ c.if-b-eq116.true)))

pub returns-then-b-eq116 : goal.returns-then-b-eq116
returns-then-b-eq116 c = let p = c.requires in true-wrote _ _ _ _ p.0 (sym p.1 ∙ c.if-b-eq116.true)

pub bounds-out-pos-3 : goal.bounds-out-pos-3
bounds-out-pos-3 c = simp length-set (omega (
  arith,
  false-room _ _ _ _ c.requires.0 ((let left_is : byte_at c.args.text.now c.args.at ≡ 0x66 = let p = c.requires in
      is_false _ _ _ _ p.0 _ p.1 p.2 p.3 p.4 p.5 c.if-b-eq110.false c.if-b-eq116.false in left_is)),
))

pub returns : goal.returns
returns c = false-wrote _ _ _ _ c.requires.0 ((let left_is : byte_at c.args.text.now c.args.at ≡ 0x66 = let p = c.requires in
    is_false _ _ _ _ p.0 _ p.1 p.2 p.3 p.4 p.5 c.if-b-eq110.false c.if-b-eq116.false in left_is))
