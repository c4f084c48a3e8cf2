use mathlib.Core.Path.{refl, ◌∙◌}
use native.Mathlib.Omega.{arith}
use Rattle.store.specs.ConnMoves.{LineAt}
use Rattle.store.proofs.ConnLaws.{line-at-kept}
use Rattle.line_list.proofs.EachLaws.{line-changed, each_none, each_more, each_all}
use Rattle.line_list.proofs.change_each.Goals as goal

pub loop-i-init : goal.loop-i-init
loop-i-init g c = (refl, (λ k a. a, λ f m. each_none f _ c.requires.lined.sized))

pub line_at-line-requires : goal.line_at-line-requires
line_at-line-requires g c = c.loop-i.invariant.1.0 c.loop-i.i (record { lined = c.requires.lined; here = omega arith })

pub set_line-requires : goal.set_line-requires
set_line-requires g c = c.loop-i.invariant.1.0 c.loop-i.i (record { lined = c.requires.lined; here = omega arith })

pub loop-i-preserved : goal.loop-i-preserved
loop-i-preserved g c =
    let l = c.loop-i in
    let at : LineAt l.s l.i = l.invariant.1.0 l.i (record { lined = c.requires.lined; here = omega arith }) in (
      c.set_line.auto.s ∙ l.invariant.0,
      (
        λ k a. line-at-kept _ _ l.i _ c.set_line.ensures k (l.invariant.1.0 k a),
        λ f m. each_more f _ _ l.i (l.invariant.1.1 f m) _ (omega arith)
            (line-changed _ _ l.i at.here f c.line_at-line.result c.change.result c.line_at-line.ensures (m _ _ c.change.ensures) c.set_line.ensures),
      ),
    )

pub returns : goal.returns
returns g c = λ f m. each_all f _ _ c.loop-i.i (c.loop-i.invariant.1.1 f m) (omega arith)
