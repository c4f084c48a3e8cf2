use mathlib.Core.Path.{refl}
use native.Mathlib.Omega.{arith}
use Rattle.store.proofs.AreaSteps.{opening-start, opening-back, opening-ready, opening-more, place-fits}
use Rattle.store.proofs.AreaSteps.{opening-count, opening-size, opening-done}
use borrow.Author.Rules.{rules}
use Rattle.store.proofs.areas.insert.Goals as goal

pub loop-j-init : goal.loop-j-init
loop-j-init c = opening-start _ _ c.requires _ c.line_start-a.ensures

pub overflow_sub-a : goal.overflow_sub-a
overflow_sub-a c =
    opening-back _ _ c.requires _ _ _ c.loop-j.invariant (omega arith)

pub overflow_sub-a-in-loop-j : goal.overflow_sub-a-in-loop-j
overflow_sub-a-in-loop-j c =
    opening-back _ _ c.requires _ _ _ c.loop-j.invariant (omega arith)

pub copy-requires : goal.copy-requires
copy-requires c =
    opening-ready _ _ c.requires _ _ _ c.loop-j.invariant (omega arith)

pub loop-j-preserved : goal.loop-j-preserved
loop-j-preserved c =
    let l = c.loop-j in
    opening-more _ _ c.requires _ _ _ l.invariant (omega arith) _ c.copy.ensures _ _ refl refl

pub overflow_add-a : goal.overflow_add-a
overflow_add-a c =
    let l = c.loop-j in
    omega (arith, place-fits _ _ c.requires _ _ _ l.invariant, l.invariant.size)

pub offset_bounds-s-a : goal.offset_bounds-s-a
offset_bounds-s-a c =
    let l = c.loop-j in
    let f = place-fits _ _ c.requires _ _ _ l.invariant in
    let n = l.invariant.size in
    search rules

pub slice_bounds-put_waiting-end : goal.slice_bounds-put_waiting-end
slice_bounds-put_waiting-end c =
    place-fits _ _ c.requires _ _ _ c.loop-j.invariant

pub bounds-s-9-2 : goal.bounds-s-9-2
bounds-s-9-2 c =
    let l = c.loop-j in
    let p = c.put_waiting in
    opening-count _ _ c.requires _ _ _ l.invariant (omega arith) p.new.area p.auto.area

pub shape_of-s : goal.shape_of-s
shape_of-s c =
    let l = c.loop-j in
    let p = c.put_waiting in
    opening-size _ _ c.requires _ _ _ l.invariant (omega arith) p.new.area p.auto.area

pub returns : goal.returns
returns c =
    let l = c.loop-j in
    let p = c.put_waiting in
    opening-done _ _ c.requires _ _ _ l.invariant (omega arith) p.new.area p.auto.area c.args.conn c.args.limit c.args.t p.ensures
