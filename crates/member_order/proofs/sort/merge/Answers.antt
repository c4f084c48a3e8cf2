use mathlib.Core.Path.{refl, ◌∙◌}
use native.Mathlib.Omega.{arith}
use lib.ListN.{length-set}
use Rattle.member_order.proofs.Runs.{length_run}
use Rattle.member_order.proofs.Merged.{merged-none, merged-more, merged-all}
use Rattle.member_order.proofs.sort.merge.Goals as goal

pub loop-i-init : goal.loop-i-init
loop-i-init c = (refl, omega arith, omega arith, omega arith, merged-none _ _ _ _)

pub loop-i-smaller : goal.loop-i-smaller
loop-i-smaller c =
    let la = length_run c.args.words.now c.args.low c.args.a c.requires.0 in
    let lb = length_run c.args.words.now c.args.middle c.args.b c.requires.1 in
    omega (arith, c.pick-next.ensures.3, c.pick-next.ensures.4, c.pick-next.ensures.5)

pub loop-i-preserved : goal.loop-i-preserved
loop-i-preserved c =
    let v = c.loop-i in
    let p = c.pick-next.ensures in
    let la = length_run c.args.words.now c.args.low c.args.a c.requires.0 in
    let lb = length_run c.args.words.now c.args.middle c.args.b c.requires.1 in (
      length-set v.merged v.count c.pick-next.result.word ∙ v.invariant.0,
      omega (arith, p.4),
      omega (arith, p.5),
      omega (arith, p.3),
      merged-more _ _ _ _ _ _ _ v.invariant.4 c.pick-next.result (omega arith) p,
    )

pub shape_of-merged : goal.shape_of-merged
shape_of-merged c = c.loop-i.invariant.0

pub returns : goal.returns
returns c =
    let v = c.loop-i in
    let la = length_run c.args.words.now c.args.low c.args.a c.requires.0 in
    let lb = length_run c.args.words.now c.args.middle c.args.b c.requires.1 in
    (merged-all _ _ _ _ _ _ _ v.invariant.4 (omega arith), omega arith)
