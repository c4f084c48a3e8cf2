use borrow.Author.Rules.{rules}
use mathlib.Core.Path.{refl, ◌∙◌}
use Prim.Native.Nat.{◌≤◌}
use native.Mathlib.Omega.{arith}
use lib.ListN.{length}
use Rattle.json_text.proofs.Places.{place-behind}
use Rattle.writing.proofs.Gathering.{gathered_none, gathering-starts, here, place_inside, gathered-all, gathering-goes-on}
use Rattle.writing.proofs.collect.collect.Goals as goal

pub returns-then-byte-eq125 : goal.returns-then-byte-eq125
returns-then-byte-eq125 c =
    let x = c.args.text.now in
    let v = c.requires.0.0 in
    gathered_none x c.args.places.now c.args.names.now _ c.args.top _ _ _ v.spans c.requires.1 c.skip_ws-i.ensures c.byte.ensures
    c.args.ends.now v.known c.if-byte-eq125.true

pub loop-at-init : goal.loop-at-init
loop-at-init c =
    let x = c.args.text.now in
    let v = c.requires.0.0 in
    let g =
    gathering-starts x c.args.places.now c.args.names.now _ c.args.top _ _ _ v.spans c.requires.1 c.skip_ws-i.ensures
    c.byte.ensures c.requires.0.1 c.if-byte-eq125.false in
    (g, v.known, refl, refl, refl)

pub bounds-places-top : goal.bounds-places-top
bounds-places-top c =
    let x = c.args.text.now in
    place_inside x _ c.loop-at.places _ _ _ _ _ c.loop-at.invariant.0

pub note_member-end-requires : goal.note_member-end-requires
note_member-end-requires c =
    let f = here c.args.text.now _ _ _ _ _ _ _ c.loop-at.invariant.0 in
    let v = c.requires.0.0 in
    (record { short = v.short; known = c.loop-at.invariant.1; room = omega (arith, v.room); end = f.end; spans = f.spans }, (let wide_is : length c.args.text.now ≤ length c.loop-at.names = omega (arith, c.loop-at.invariant.4, c.requires.2) in wide_is))

pub returns-then-byte-ne44 : goal.returns-then-byte-ne44
returns-then-byte-ne44 c =
    let x = c.args.text.now in
    let o = c.note_member-end.ensures in
    gathered-all x _ _ _ _ _ _ _ c.loop-at.invariant.0 _ _ _ o.0 c.skip_ws-behind.ensures c.byte-in-loop-at.ensures _ o.2 ((let wide_is : length c.args.text.now ≤ length c.loop-at.names = omega (arith, c.loop-at.invariant.4, c.requires.2) in wide_is)) _ o.1 c.if-byte-ne44.true

pub skip_ws-i-requires-in-loop-at : goal.skip_ws-i-requires-in-loop-at
skip_ws-i-requires-in-loop-at c =
    let x = c.args.text.now in
    place-behind x _ _ c.byte-in-loop-at.ensures (search rules)

pub loop-at-preserved : goal.loop-at-preserved
loop-at-preserved c =
    let x = c.args.text.now in
    let o = c.note_member-end.ensures in
    let g =
    gathering-goes-on x _ _ _ _ _ _ _ c.loop-at.invariant.0 _ _ _ o.0 c.skip_ws-behind.ensures c.byte-in-loop-at.ensures _ o.2 ((let wide_is : length c.args.text.now ≤ length c.loop-at.names = omega (arith, c.loop-at.invariant.4, c.requires.2) in wide_is)) c.if-byte-ne44.false _
    c.skip_ws-i-in-loop-at.ensures in
    (g, o.1, c.note_member-end.auto.ends ∙ c.loop-at.invariant.2, search rules, c.note_member-end.auto.names ∙ c.loop-at.invariant.4)
