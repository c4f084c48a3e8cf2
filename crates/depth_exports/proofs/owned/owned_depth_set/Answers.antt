use mathlib.Core.Path.{◌∙◌}
use Rattle.depth_exports.proofs.Laws.{tells-side, tells-same}
use Rattle.depth_exports.proofs.owned.owned_depth_set.Goals as goal

pub returns : goal.returns
returns c =
    let s = c.set-answer in
    let t = c.of_set.ensures in
    let e = s.ensures in (
      tells-side s.result _ _ _ _ t ∙ e.0,
      λ z. (tells-same s.result _ _ _ _ _ _ t e.1 z).0,
      λ z. (tells-same s.result _ _ _ _ _ _ t e.1 z).1,
    )
