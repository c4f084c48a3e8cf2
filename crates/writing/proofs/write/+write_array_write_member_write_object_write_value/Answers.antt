use mathlib.Core.Path.{sym, ◌∙◌, ap, refl}
use Prim.Native.Nat.{ℕ, ◌-◌, ◌+◌}
use native.Mathlib.Omega.{arith}
use lib.ListN.{length, get_or}
use Rattle.json_text.proofs.Places.{place-behind}
use Rattle.writing.proofs.ArrayLaws.{array-room, array-none, array-first, item-writable, item-done, items_more, items-last}
use Rattle.writing.proofs.RankLaws.{rank-item, rank-value, rank-member, rank-kind}
use Rattle.writing.proofs.MemberSteps.{member-inside, name-room, colon-inside, value-behind, value-writable, member-wrote}
use Rattle.writing.proofs.ObjectLaws.{skippable, few-members, places-short, still_kept, in_order, members-first, member-writable, members-more, members-last}
use Rattle.writing.specs.Writing.{WritesScalar}
use Rattle.writing.proofs.write.+write_array_write_member_write_object_write_value.Goals as goal

pub write_array-overflow_add-at : goal.write_array-overflow_add-at
write_array-overflow_add-at t c =
    let w = c.requires.0 in
    omega (arith, w.spans.on, w.spans.fits, w.short)

pub write_array-skip_ws-i-requires : goal.write_array-skip_ws-i-requires
write_array-skip_ws-i-requires t c =
    let w = c.requires.0 in
    omega (arith, w.spans.on, w.spans.fits)

pub write_array-overflow_add-end : goal.write_array-overflow_add-end
write_array-overflow_add-end t c =
    omega (arith, array-room c.requires.0 c.requires.1)

pub write_array-put_header-requires : goal.write_array-put_header-requires
write_array-put_header-requires t c =
    (array-room c.requires.0 c.requires.1, omega arith)

pub write_array-overflow_add-result : goal.write_array-overflow_add-result
write_array-overflow_add-result t c =
    omega (arith, c.skip_ws-i.ensures.2, c.requires.0.short)

pub write_array-returns-then-byte-eq93 : goal.write_array-returns-then-byte-eq93
write_array-returns-then-byte-eq93 t c =
    array-none c.requires.0 c.requires.1 _ c.skip_ws-i.ensures _ (sym c.byte.ensures ∙ c.if-byte-eq93.true) c.put_header.ensures

pub write_array-loop-out-init : goal.write_array-loop-out-init
write_array-loop-out-init t c =
    array-first c.requires.0 c.requires.1 _ c.skip_ws-i.ensures (λ e. c.if-byte-eq93.false (c.byte.ensures ∙ e))

pub write_array-write_value-next-requires : goal.write_array-write_value-next-requires
write_array-write_value-next-requires t c =
    let p = c.loop-out.invariant in
    let n = length c.args.places.now - c.args.top in
    let n' = length c.loop-out.places - c.args.top in
    let l = rank-item n n' (length c.args.text.now) c.args.at c.loop-out.i
    (ap (λ (z : ℕ). z - c.args.top) p.same-places) (omega (arith, p.behind)) p.inside in
    (omega (arith, l, c.decreases), item-writable p)

pub write_array-overflow_add-count : goal.write_array-overflow_add-count
write_array-overflow_add-count t c =
    let w = c.requires.0 in
    let p = c.loop-out.invariant in
    omega (arith, p.behind, p.inside, w.short)

pub write_array-skip_ws-behind-requires : goal.write_array-skip_ws-behind-requires
write_array-skip_ws-behind-requires t c = c.write_value-next.ensures.spans.fits

pub write_array-put_header-requires-then-byte-ne44 : goal.write_array-put_header-requires-then-byte-ne44
write_array-put_header-requires-then-byte-ne44 t c =
    let w = c.requires.0 in
    let p = c.loop-out.invariant in
    let n = c.write_value-next in
    let q = item-done p {merged' = n.new.merged} {names' = n.new.names} n.ensures n.auto.ends n.auto.places n.auto.merged n.auto.names n.auto.out in
    (omega (arith, array-room w c.requires.1, q.same_out), omega (arith, q.behind, q.inside, w.short))

pub write_array-overflow_add-result-then-byte-ne44 : goal.write_array-overflow_add-result-then-byte-ne44
write_array-overflow_add-result-then-byte-ne44 t c =
    let w = c.requires.0 in
    omega (arith, c.skip_ws-behind.ensures.2, w.short)

pub write_array-returns-then-byte-ne44 : goal.write_array-returns-then-byte-ne44
write_array-returns-then-byte-ne44 t c =
    let p = c.loop-out.invariant in
    let n = c.write_value-next in
    let q = item-done p {merged' = n.new.merged} {names' = n.new.names} n.ensures n.auto.ends n.auto.places n.auto.merged n.auto.names n.auto.out in
    items-last q _ c.skip_ws-behind.ensures (λ e. c.if-byte-ne44.true (c.byte-in-loop-out.ensures ∙ e)) c.put_header-then-byte-ne44.ensures

pub write_array-overflow_add-behind : goal.write_array-overflow_add-behind
write_array-overflow_add-behind t c =
    let w = c.requires.0 in
    omega (arith, place-behind c.args.text.now c.skip_ws-behind.result c.byte-in-loop-out.result c.byte-in-loop-out.ensures (omega (arith, c.if-byte-ne44.false)), w.short)

pub write_array-skip_ws-i-requires-in-loop-out : goal.write_array-skip_ws-i-requires-in-loop-out
write_array-skip_ws-i-requires-in-loop-out t c =
    place-behind c.args.text.now c.skip_ws-behind.result c.byte-in-loop-out.result c.byte-in-loop-out.ensures (omega (arith, c.if-byte-ne44.false))

pub write_array-loop-out-smaller : goal.write_array-loop-out-smaller
write_array-loop-out-smaller t c =
    let x = c.write_value-next.ensures.spans in
    omega (arith, x.on, x.fits, c.skip_ws-behind.ensures.1, c.skip_ws-i-in-loop-out.ensures.1)

pub write_array-loop-out-preserved : goal.write_array-loop-out-preserved
write_array-loop-out-preserved t c =
    let p = c.loop-out.invariant in
    let n = c.write_value-next in
    let q = item-done p {merged' = n.new.merged} {names' = n.new.names} n.ensures n.auto.ends n.auto.places n.auto.merged n.auto.names n.auto.out in
    items_more q _ c.skip_ws-behind.ensures (sym c.byte-in-loop-out.ensures ∙ c.if-byte-ne44.false) _ c.skip_ws-i-in-loop-out.ensures

pub write_member-overflow_add-at : goal.write_member-overflow_add-at
write_member-overflow_add-at t c =
    omega (arith, member-inside c.requires, c.requires.short)

pub write_member-put_string-name-requires : goal.write_member-put_string-name-requires
write_member-put_string-name-requires t c =
    (member-inside c.requires, c.requires.short, name-room c.requires)

pub write_member-skip_ws-colon-requires : goal.write_member-skip_ws-colon-requires
write_member-skip_ws-colon-requires t c = c.put_string-name.ensures.fits

pub write_member-overflow_add-colon : goal.write_member-overflow_add-colon
write_member-overflow_add-colon t c =
    omega (arith, c.requires.short, colon-inside c.requires c.put_string-name.ensures c.put_string-name.auto.out _ c.skip_ws-colon.ensures)

pub write_member-skip_ws-value-requires : goal.write_member-skip_ws-value-requires
write_member-skip_ws-value-requires t c =
    colon-inside c.requires c.put_string-name.ensures c.put_string-name.auto.out _ c.skip_ws-colon.ensures

pub write_member-write_value-next-requires : goal.write_member-write_value-next-requires
write_member-write_value-next-requires t c =
    let w = c.requires in
    let q = c.put_string-name.ensures in
    let e = c.put_string-name.auto.out in
    let b = value-behind w q e _ c.skip_ws-colon.ensures _ c.skip_ws-value.ensures in
    let l = rank-value (length c.args.places.now - c.args.top) (length c.args.text.now) c.args.at c.skip_ws-value.result b in
    (omega (arith, l, c.decreases), value-writable w q e _ c.skip_ws-colon.ensures _ c.skip_ws-value.ensures)

pub write_member-returns : goal.write_member-returns
write_member-returns t c =
    member-wrote c.requires c.put_string-name.ensures c.put_string-name.auto.out _ c.skip_ws-colon.ensures _ c.skip_ws-value.ensures c.write_value-next.ensures

pub write_object-collect-all-requires : goal.write_object-collect-all-requires
write_object-collect-all-requires t c =
    (skippable c.requires.0, c.requires.1, c.requires.0.room_names)

pub write_object-sort-count-requires : goal.write_object-sort-count-requires
write_object-sort-count-requires t c =
    let w = c.requires.0 in
    let a = c.collect-all.ensures in
    let e = c.collect-all.auto.places in
    let f = few-members w a e in
    (f.0, omega (arith, f.1, w.room_merged), places-short w a e)

pub write_object-put_header-requires : goal.write_object-put_header-requires
write_object-put_header-requires t c =
    let w = c.requires.0 in
    let a = c.collect-all.ensures in
    let e = c.collect-all.auto.places in
    let v = in_order w a e c.sort-count.ensures.0 c.sort-count.ensures.1 in
    (omega (arith, v.room_out), omega (arith, v.short, (few-members w a e).1, w.short))

pub write_object-overflow_add-end : goal.write_object-overflow_add-end
write_object-overflow_add-end t c =
    let w = c.requires.0 in
    let a = c.collect-all.ensures in
    let e = c.collect-all.auto.places in
    let v = in_order w a e c.sort-count.ensures.0 c.sort-count.ensures.1 in
    omega (arith, v.room_out)

pub write_object-loop-i-init : goal.write_object-loop-i-init
write_object-loop-i-init t c =
    let a = c.collect-all.ensures in
    members-first _ _ _ _ _ _ _ _ _ a.known

pub write_object-overflow_add-top : goal.write_object-overflow_add-top
write_object-overflow_add-top t c =
    let w = c.requires.0 in
    let a = c.collect-all.ensures in
    let e = c.collect-all.auto.places in
    let v = in_order w a e c.sort-count.ensures.0 c.sort-count.ensures.1 in
    let p = c.loop-i.invariant in
    omega (arith, v.room_places, p.same-places)

pub write_object-offset_bounds-places-top : goal.write_object-offset_bounds-places-top
write_object-offset_bounds-places-top t c =
    let w = c.requires.0 in
    let a = c.collect-all.ensures in
    let e = c.collect-all.auto.places in
    let v = in_order w a e c.sort-count.ensures.0 c.sort-count.ensures.1 in
    omega (arith, v.room_places, c.loop-i-test.true, c.sort-count.auto.places)

pub write_object-bounds-places-top : goal.write_object-bounds-places-top
write_object-bounds-places-top t c =
    let w = c.requires.0 in
    let a = c.collect-all.ensures in
    let e = c.collect-all.auto.places in
    let v = in_order w a e c.sort-count.ensures.0 c.sort-count.ensures.1 in
    let p = c.loop-i.invariant in
    omega (arith, v.room_places, p.same-places)

pub write_object-overflow_add-name : goal.write_object-overflow_add-name
write_object-overflow_add-name t c =
    let w = c.requires.0 in
    let a = c.collect-all.ensures in
    let e = c.collect-all.auto.places in
    let v = in_order w a e c.sort-count.ensures.0 c.sort-count.ensures.1 in
    omega (arith, v.room_places, c.sort-count.auto.places)

pub write_object-write_member-end-requires : goal.write_object-write_member-end-requires
write_object-write_member-end-requires t c =
    let w = c.requires.0 in
    let a = c.collect-all.ensures in
    let e = c.collect-all.auto.places in
    let v = in_order w a e c.sort-count.ensures.0 c.sort-count.ensures.1 in
    let p = c.loop-i.invariant in
    let n = length c.args.places.now - c.args.top in
    let n' = length c.loop-i.places - (c.args.top + c.sort-count.result) in
    let x = rank-member n n' (length c.args.text.now) c.args.at (get_or c.loop-i.places (c.args.top + c.loop-i.i) 0)
    (omega (arith, v.room_places, p.same-places, c.sort-count.auto.places, e, c.loop-i-test.true)) in
    let y = c.collect-all.auto.ends in (
      omega (arith, x, c.decreases),
      member-writable v p c.put_header.auto.out c.loop-i-test.true _ refl w.short
          (omega (arith, w.room_ends, y)) (omega (arith, w.room_merged, c.sort-count.auto.merged)) (omega (arith, w.room_names, c.collect-all.auto.names)),
    )

pub write_object-loop-i-smaller : goal.write_object-loop-i-smaller
write_object-loop-i-smaller t c =
    omega (arith, c.loop-i-test.true)

pub write_object-loop-i-preserved : goal.write_object-loop-i-preserved
write_object-loop-i-preserved t c =
    let w = c.requires.0 in
    let a = c.collect-all.ensures in
    let e = c.collect-all.auto.places in
    let v = in_order w a e c.sort-count.ensures.0 c.sort-count.ensures.1 in
    let p = c.loop-i.invariant in
    let n = c.write_member-end in
    members-more v p c.put_header.auto.out c.loop-i-test.true _ refl n.ensures
    n.auto.ends n.auto.places n.auto.merged n.auto.names n.auto.out

pub write_object-shape_of-ends : goal.write_object-shape_of-ends
write_object-shape_of-ends t c =
    let p = c.loop-i.invariant in
    p.same_ends ∙ c.collect-all.auto.ends

pub write_object-shape_of-places : goal.write_object-shape_of-places
write_object-shape_of-places t c =
    let e = c.collect-all.auto.places in
    let p = c.loop-i.invariant in
    p.same-places ∙ c.sort-count.auto.places ∙ e

pub write_object-shape_of-merged : goal.write_object-shape_of-merged
write_object-shape_of-merged t c =
    let p = c.loop-i.invariant in
    p.same-merged ∙ c.sort-count.auto.merged

pub write_object-shape_of-names : goal.write_object-shape_of-names
write_object-shape_of-names t c =
    let p = c.loop-i.invariant in
    p.same_names ∙ c.collect-all.auto.names

pub write_object-shape_of-out : goal.write_object-shape_of-out
write_object-shape_of-out t c =
    let p = c.loop-i.invariant in
    p.same_out ∙ c.put_header.auto.out

pub write_object-returns : goal.write_object-returns
write_object-returns t c =
    let w = c.requires.0 in
    let a = c.collect-all.ensures in
    let e = c.collect-all.auto.places in
    let v = in_order w a e c.sort-count.ensures.0 c.sort-count.ensures.1 in
    let p = c.loop-i.invariant in
    members-last v p c.put_header.auto.out c.loop-i-test.false c.put_header.ensures _
    (still_kept w a e c.sort-count.ensures.0 c.sort-count.ensures.1)

pub write_value-write_array-requires : goal.write_value-write_array-requires
write_value-write_array-requires t c =
    let l = rank-kind (length c.args.places.now - c.args.top) (length c.args.text.now) c.args.at in
    (omega (arith, l, c.decreases), (c.requires, sym c.byte-b.ensures ∙ c.if-b-eq91.true))

pub write_value-returns-then-b-eq91 : goal.write_value-returns-then-b-eq91
write_value-returns-then-b-eq91 t c =
    c.write_array.ensures

pub write_value-write_object-requires : goal.write_value-write_object-requires
write_value-write_object-requires t c =
    let l = rank-kind (length c.args.places.now - c.args.top) (length c.args.text.now) c.args.at in
    (omega (arith, l, c.decreases), (c.requires, sym c.byte-b.ensures ∙ c.if-b-eq123.true))

pub write_value-returns-then-b-eq123 : goal.write_value-returns-then-b-eq123
write_value-returns-then-b-eq123 t c =
    c.write_object.ensures

pub write_value-write_scalar-requires : goal.write_value-write_scalar-requires
write_value-write_scalar-requires t c =
    let w = c.requires in
    let r : WritesScalar c.args.text.now c.args.out.now c.args.at c.args.pos =
    record { short = w.short; end = w.end; spans = w.spans; room = w.room_out } in
    (r, (λ e. c.if-b-eq91.false (c.byte-b.ensures ∙ e)), (λ e. c.if-b-eq123.false (c.byte-b.ensures ∙ e)))

pub write_value-returns : goal.write_value-returns
write_value-returns t c =
    let o = c.write_scalar.ensures in
    record { known = c.requires.known; kept = refl; spans = o.spans; bytes = o.bytes; next = o.next }
