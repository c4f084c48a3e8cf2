use borrow.Author.Rules.{rules}
use mathlib.Core.Path.{refl}
use Prim.Native.Nat.{◌+◌, ◌≤◌}
use native.Mathlib.Omega.{arith}
use lib.ListN.{length, drop, length-set}
use Rattle.json_text.specs.Bytes.{plain}
use Rattle.json_text.proofs.StringSteps.{chars-over, chars-closed}
use Rattle.json_text.proofs.Tests.{test_of}
use Rattle.member_order.specs.Names.{chars_text}
use Rattle.member_order.proofs.TextSteps.{text-over, text-closed}
use Rattle.writing.proofs.PutLaws.{no-rest, same_rest, partly_none, partly-room, partly-ends, partly-plain, partly-char-room, partly-special, partly-stuck}
use Rattle.writing.proofs.bytes.put_string.Goals as goal

pub loop-i-init : goal.loop-i-init
loop-i-init c = partly_none _ _ _ _ (search rules)

pub bounds-out-end : goal.bounds-out-end
bounds-out-end c = omega (arith, (let room_is : (let l = c.loop-i in l.end + length (chars_text (drop l.i c.args.text.now)) + 1 ≤ length l.out) = partly-room c.loop-i.invariant c.requires.2 in room_is))

pub overflow_add-result-then-b-eq34 : goal.overflow_add-result-then-b-eq34
overflow_add-result-then-b-eq34 c = omega (arith, (let room_is : (let l = c.loop-i in l.end + length (chars_text (drop l.i c.args.text.now)) + 1 ≤ length l.out) = partly-room c.loop-i.invariant c.requires.2 in room_is))

pub shape_of-out-then-b-eq34 : goal.shape_of-out-then-b-eq34
shape_of-out-then-b-eq34 c = simp length-set c.loop-i.invariant.size

pub returns-then-b-eq34 : goal.returns-then-b-eq34
returns-then-b-eq34 c =
    let h = c.loop-i-test.true in
    partly-ends c.loop-i.invariant c.requires.2 (text-closed _ _ h c.if-b-eq34.true) (c.loop-i.i + 1) (omega arith)
    (same_rest (chars-closed _ _ h c.if-b-eq34.true))

pub bounds-out-end-then-plain : goal.bounds-out-end-then-plain
bounds-out-end-then-plain c = omega (arith, (let room_is : (let l = c.loop-i in l.end + length (chars_text (drop l.i c.args.text.now)) + 1 ≤ length l.out) = partly-room c.loop-i.invariant c.requires.2 in room_is))

pub overflow_add-end : goal.overflow_add-end
overflow_add-end c = omega (arith, (let room_is : (let l = c.loop-i in l.end + length (chars_text (drop l.i c.args.text.now)) + 1 ≤ length l.out) = partly-room c.loop-i.invariant c.requires.2 in room_is))

pub loop-i-preserved-then-plain : goal.loop-i-preserved-then-plain
loop-i-preserved-then-plain c =
    partly-plain c.loop-i.invariant c.requires.2 c.loop-i-test.true c.if-b-eq34.false
    (test_of plain c.plain.ensures c.byte.ensures c.if-plain.true)

pub put_special-next-requires : goal.put_special-next-requires
put_special-next-requires c =
    let h = c.loop-i-test.true in
    let r = c.requires in (
      h,
      r.1,
      test_of plain c.plain.ensures c.byte.ensures c.if-plain.false,
      partly-char-room c.loop-i.invariant r.2 h c.if-b-eq34.false refl,
    )

pub bounds-out-end-then-next-i : goal.bounds-out-end-then-next-i
bounds-out-end-then-next-i c = omega (arith, (let room_is : (let l = c.loop-i in l.end + length (chars_text (drop l.i c.args.text.now)) + 1 ≤ length l.out) = partly-room c.loop-i.invariant c.requires.2 in room_is))

pub overflow_add-result-then-next-i : goal.overflow_add-result-then-next-i
overflow_add-result-then-next-i c = omega (arith, (let room_is : (let l = c.loop-i in l.end + length (chars_text (drop l.i c.args.text.now)) + 1 ≤ length l.out) = partly-room c.loop-i.invariant c.requires.2 in room_is))

pub shape_of-out-then-next-i : goal.shape_of-out-then-next-i
shape_of-out-then-next-i c =
    simp length-set (omega (arith, c.loop-i.invariant.size))

pub returns-then-next-i : goal.returns-then-next-i
returns-then-next-i c =
    partly-stuck c.loop-i.invariant c.requires.2 c.loop-i-test.true c.if-b-eq34.false
    c.put_special-next.ensures c.if-next-i.true

pub loop-i-smaller : goal.loop-i-smaller
loop-i-smaller c = omega (arith, c.put_special-next.ensures.at_is)

pub loop-i-preserved : goal.loop-i-preserved
loop-i-preserved c =
    partly-special c.loop-i.invariant c.requires.2 c.loop-i-test.true c.if-b-eq34.false
    c.put_special-next.ensures c.if-next-i.false

pub bounds-out-end-2 : goal.bounds-out-end-2
bounds-out-end-2 c = omega (arith, (let room_is : (let l = c.loop-i in l.end + length (chars_text (drop l.i c.args.text.now)) + 1 ≤ length l.out) = partly-room c.loop-i.invariant c.requires.2 in room_is))

pub overflow_add-result-2 : goal.overflow_add-result-2
overflow_add-result-2 c = omega (arith, (let room_is : (let l = c.loop-i in l.end + length (chars_text (drop l.i c.args.text.now)) + 1 ≤ length l.out) = partly-room c.loop-i.invariant c.requires.2 in room_is))

pub shape_of-out : goal.shape_of-out
shape_of-out c = simp length-set c.loop-i.invariant.size

pub returns : goal.returns
returns c =
    let t = c.args.text.now in
    let h : length t ≤ c.loop-i.i = omega arith in
    partly-ends c.loop-i.invariant c.requires.2 (text-over t c.loop-i.i h) _ c.loop-i.invariant.fits
    (λ s k. absurd (no-rest (chars-over t c.loop-i.i h) s k))
