use mathlib.Core.Path.{sym, ◌∙◌}
use Rattle.lines.specs.Line.{snapshot_quiet}
use Rattle.store.proofs.ConnLaws.{fits-sound, line-told}
use Rattle.market_tick.proofs.QuietLaws.{quietly-loud, quietly-new, quietly-other, quietly-fits}
use Rattle.market_tick.proofs.quietly.Goals as goal
use Rattle.market_tick.proofs.quietly.Goals.{then-quiet, else-quiet, then-quiet-2, else-quiet-2}

pub line_at-requires : goal.line_at-requires
line_at-requires c = (fits-sound _ c.requires.0 _ c.requires.1).at

pub returns-then-same : goal.returns-then-same
returns-then-same c =
    let u = c.args.s.now in
    let i = c.args.i in
    let t = c.args.t in
    elim c.if-quiet-2.branch [
      | else-quiet-2 w ↦ absurd (let z = sym w.value-is ∙ c.if-same.true in cc)
      | then-quiet-2 w ↦
          elim c.if-quiet.branch [
            | else-quiet v ↦ absurd (let z = sym v.value-is ∙ w.if-quiet-2.true in cc)
            | then-quiet v ↦
                let l = v.line_at in
                let q = v.quiet-then-quiet in
                let b = line-told u i c.requires.1 (snapshot_quiet t) (λ x. q.result) l.result q.ensures l.ensures in
                quietly-fits u i t c.args.same c.head.ensures c.quiet.ensures b
                v.if-quiet.true (sym v.value-is ∙ w.if-quiet-2.true) (sym w.value-is ∙ c.if-same.true) c.fits_quietly.ensures
          ]
    ]

pub returns-else-same : goal.returns-else-same
returns-else-same c =
    let u = c.args.s.now in
    let i = c.args.i in
    let t = c.args.t in
    elim c.if-quiet-2.branch [
      | then-quiet-2 w ↦ c.if-same.false ∙ quietly-other u i t c.args.same c.head.ensures c.quiet.ensures (sym w.value-is ∙ c.if-same.false)
      | else-quiet-2 w ↦
          elim c.if-quiet.branch [
            | else-quiet v ↦ c.if-same.false ∙ quietly-loud u i t c.args.same c.head.ensures c.quiet.ensures v.if-quiet.false
            | then-quiet v ↦
                let l = v.line_at in
                let q = v.quiet-then-quiet in
                let b = line-told u i c.requires.1 (snapshot_quiet t) (λ x. q.result) l.result q.ensures l.ensures in
                c.if-same.false ∙ quietly-new u i t c.args.same c.head.ensures c.quiet.ensures b (sym v.value-is ∙ w.if-quiet-2.false)
          ]
    ]
