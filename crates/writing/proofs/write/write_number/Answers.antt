use mathlib.Core.Path.{◌∙◌}
use Prim.Native.Nat.{◌+◌, ◌≤◌}
use native.Mathlib.Omega.{arith}
use lib.ListN.{length, length-set}
use Rattle.writing.proofs.ScalarLaws.{some-room, number-some, number-end-is, number-room, number-wrote}
use Rattle.writing.proofs.write.write_number.Goals as goal

pub unwrap-end-requires : goal.unwrap-end-requires
unwrap-end-requires c = let p = c.requires in number-some _ _ _ _ p.0 p.1 _ c.number_end.ensures

pub bounds-out-pos : goal.bounds-out-pos
bounds-out-pos c = some-room _ _ _ _ c.requires.0

pub put_text-last-requires : goal.put_text-last-requires
put_text-last-requires c =
    let p = c.requires in
    let s = p.0.spans in
    let f = number-end-is _ _ _ _ p.0 p.1 _ c.number_end.ensures _ c.unwrap-end.ensures in
    let r = number-room _ _ _ _ p.0 p.1 in
    (omega arith, omega arith, simp length-set (omega arith))

-- there is room for FF
pub bounds-out-last : goal.bounds-out-last
bounds-out-last c =
    let p = c.requires in
    let f = number-end-is _ _ _ _ p.0 p.1 _ c.number_end.ensures _ c.unwrap-end.ensures in
    let room : c.put_text-last.result + 1 ≤ length c.args.out.now = omega (arith, number-room _ _ _ _ p.0 p.1, c.put_text-last.ensures.1) in
    omega (arith, simp length-set at c.put_text-last.auto.out)

pub overflow_add-result : goal.overflow_add-result
overflow_add-result c =
    let p = c.requires in
    let f = number-end-is _ _ _ _ p.0 p.1 _ c.number_end.ensures _ c.unwrap-end.ensures in
    let room : c.put_text-last.result + 1 ≤ length c.args.out.now = omega (arith, number-room _ _ _ _ p.0 p.1, c.put_text-last.ensures.1) in
    omega arith

pub shape_of-out : goal.shape_of-out
shape_of-out c = simp length-set (c.put_text-last.auto.out ∙ simp length-set)

pub returns : goal.returns
returns c =
    let p = c.requires in
    let f = number-end-is _ _ _ _ p.0 p.1 _ c.number_end.ensures _ c.unwrap-end.ensures in
    number-wrote _ _ _ _ p.0 p.1 _ _ _ f c.put_text-last.ensures.0 c.put_text-last.ensures.1
