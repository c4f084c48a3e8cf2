use borrow.Author.Rules.{rules}
use mathlib.Core.Path.{refl, ◌∙◌}
use Prim.Native.Nat.{◌<◌}
use native.Mathlib.Omega.{arith}
use lib.ListN.{length}
use Rattle.json_text.proofs.Places.{place-behind}
use Rattle.writing.proofs.Arrays.{array-none, array-first, item-spans, array-over, array-next}
use Rattle.writing.proofs.Objects.{object-none, object-first, member-first, object-over, object-next}
use Rattle.writing.proofs.NameSteps.{member-inside, colon-inside, value-place}
use Rattle.writing.proofs.Spanning.{spans-to, spans-from, member-to, known-end, ends_set}
use Rattle.writing.proofs.skip.+member_end_skip_array_skip_object_skip_value_value_end.Goals as goal

pub member_end-skip_string-requires : goal.member_end-skip_string-requires
member_end-skip_string-requires t c = member-inside c.requires.spans

pub member_end-skip_ws-value-requires : goal.member_end-skip_ws-value-requires
member_end-skip_ws-value-requires t c =
    colon-inside c.requires.spans _ c.skip_string.ensures.2 _ c.skip_ws-colon.ensures

pub member_end-skip_value-requires : goal.member_end-skip_value-requires
member_end-skip_value-requires t c =
    let x = c.args.text.now in
    let m = c.requires.spans in
    let v = value-place m _ c.skip_string.ensures.2 _ c.skip_ws-colon.ensures _ c.skip_ws-value.ensures in
    let z = spans-from x _ _ _ m.spans v in (
      omega (arith, m.behind, m.spans.on, m.spans.fits),
      record { short = c.requires.short; known = c.requires.known; room = c.requires.room; end = c.requires.end; spans = z },
    )

pub member_end-returns : goal.member_end-returns
member_end-returns t c =
    let x = c.args.text.now in
    let m = c.requires.spans in
    let v = value-place m _ c.skip_string.ensures.2 _ c.skip_ws-colon.ensures _ c.skip_ws-value.ensures in
    (member-to x _ _ _ m _ v c.skip_value.ensures.0, c.skip_value.ensures.1)

pub skip_array-returns-then-byte-eq93 : goal.skip_array-returns-then-byte-eq93
skip_array-returns-then-byte-eq93 t c =
    let x = c.args.text.now in
    (array-none x _ _ _ _ c.requires.0.spans c.requires.1 c.skip_ws-i.ensures c.byte.ensures c.if-byte-eq93.true, c.requires.0.known)

pub skip_array-loop-at-init : goal.skip_array-loop-at-init
skip_array-loop-at-init t c =
    let x = c.args.text.now in
    let a = array-first x _ _ _ _ c.requires.0.spans c.requires.1 c.skip_ws-i.ensures c.byte.ensures c.if-byte-eq93.false in
    (a, c.requires.0.known, refl)

pub skip_array-skip_value-end-requires : goal.skip_array-skip_value-end-requires
skip_array-skip_value-end-requires t c =
    let i = item-spans c.args.text.now _ _ c.loop-at.invariant.0 in (
      omega (arith, c.loop-at.invariant.0.on, i.1.on, i.1.fits),
      record { short = c.requires.0.short; known = c.loop-at.invariant.1; room = omega (arith, c.requires.0.room); end = i.0; spans = i.1 },
    )

pub skip_array-returns-then-byte-ne44 : goal.skip_array-returns-then-byte-ne44
skip_array-returns-then-byte-ne44 t c =
    let x = c.args.text.now in (
      array-over x _ _ _ _ _ c.loop-at.invariant.0 c.skip_value-end.ensures.0 c.skip_ws-behind.ensures c.byte-in-loop-at.ensures c.if-byte-ne44.true,
      c.skip_value-end.ensures.1,
    )

pub skip_array-skip_ws-i-requires-in-loop-at : goal.skip_array-skip_ws-i-requires-in-loop-at
skip_array-skip_ws-i-requires-in-loop-at t c =
    let x = c.args.text.now in
    place-behind x _ _ c.byte-in-loop-at.ensures (search rules)

pub skip_array-loop-at-preserved : goal.skip_array-loop-at-preserved
skip_array-loop-at-preserved t c =
    let x = c.args.text.now in
    let a =
    array-next x _ _ _ _ _ c.loop-at.invariant.0 c.skip_value-end.ensures.0 c.skip_ws-behind.ensures c.byte-in-loop-at.ensures c.if-byte-ne44.false _
    c.skip_ws-i-in-loop-at.ensures in
    (a, c.skip_value-end.ensures.1, c.skip_value-end.auto.ends ∙ c.loop-at.invariant.2)

pub skip_object-returns-then-byte-eq125 : goal.skip_object-returns-then-byte-eq125
skip_object-returns-then-byte-eq125 t c =
    let x = c.args.text.now in
    let z = c.requires.0.spans in
    let o = object-none x _ _ _ _ z c.requires.1 c.skip_ws-i.ensures c.byte.ensures c.if-byte-eq125.true in
    (spans-to x _ _ _ z o.1, c.requires.0.known)

pub skip_object-loop-at-init : goal.skip_object-loop-at-init
skip_object-loop-at-init t c =
    let x = c.args.text.now in
    let z = c.requires.0.spans in
    let o = object-first x _ _ _ _ z c.requires.1 c.skip_ws-i.ensures c.byte.ensures c.if-byte-eq125.false in
    ((c.requires.0.end, o.0, z, o.2), c.requires.0.known, refl)

pub skip_object-member_end-end-requires : goal.skip_object-member_end-end-requires
skip_object-member_end-end-requires t c =
    let o = c.loop-at.invariant.0 in
    let f = member-first c.args.text.now _ _ _ _ o.3 in (
      omega (arith, o.3.on, f.spans.behind, f.spans.spans.on, f.spans.spans.fits),
      record { short = c.requires.0.short; known = c.loop-at.invariant.1; room = omega (arith, c.requires.0.room); end = f.end; spans = f.spans },
    )

pub skip_object-returns-then-byte-ne44 : goal.skip_object-returns-then-byte-ne44
skip_object-returns-then-byte-ne44 t c =
    let a = c.args in
    let x = a.text.now in
    let o = c.loop-at.invariant.0 in
    let f = member-first x _ _ _ _ o.3 in
    let e =
    object-over x a.at _ _ _ _ _ _ f c.member_end-end.ensures.0 c.skip_ws-behind.ensures c.byte-in-loop-at.ensures o.2.fits c.if-byte-ne44.true in
    (spans-to x _ _ _ o.2 e.1, c.member_end-end.ensures.1)

pub skip_object-skip_ws-i-requires-in-loop-at : goal.skip_object-skip_ws-i-requires-in-loop-at
skip_object-skip_ws-i-requires-in-loop-at t c =
    let x = c.args.text.now in
    place-behind x _ _ c.byte-in-loop-at.ensures (search rules)

pub skip_object-loop-at-preserved : goal.skip_object-loop-at-preserved
skip_object-loop-at-preserved t c =
    let x = c.args.text.now in
    let o = c.loop-at.invariant.0 in
    let f = member-first x _ _ _ _ o.3 in
    let n =
    object-next x _ _ _ _ _ _ _ f c.member_end-end.ensures.0 c.skip_ws-behind.ensures c.byte-in-loop-at.ensures o.3.on c.if-byte-ne44.false _
    c.skip_ws-i-in-loop-at.ensures in
    ((o.0, f.rest, o.2, n), c.member_end-end.ensures.1, c.member_end-end.auto.ends ∙ c.loop-at.invariant.2)

pub skip_value-returns-then-known-ne0 : goal.skip_value-returns-then-known-ne0
skip_value-returns-then-known-ne0 t c =
    (known-end c.args.text.now c.args.ends.now _ _ c.requires.known c.from-known.ensures c.if-known-ne0.true, c.requires.known)

pub skip_value-returns : goal.skip_value-returns
skip_value-returns t c =
    let k : c.args.at < length c.value_end-end.new.ends =
    omega (arith, c.value_end-end.auto.ends, c.requires.spans.on, c.requires.spans.fits, c.requires.room) in (
      c.value_end-end.ensures.0,
      ends_set c.args.text.now c.value_end-end.new.ends _ _ k c.value_end-end.ensures.1 c.value_end-end.ensures.0,
    )
