use mathlib.Core.Path.{ap}
use Prim.Native.Nat.{ℕ, ◌*◌}
use Rattle.lines.proofs.Laws.{held-is}
use Rattle.lines.proofs.CopyLaws.{items-enough}
use Rattle.lines.proofs.area.item_words_used.Goals as goal

pub returns : goal.returns
returns c =
    items-enough c.args.h c.held.result c.args.area.now c.line.result c.line.ensures (held-is c.line.result _ c.held.ensures) _ (ap (λ (n : ℕ). 4 * n) c.min.ensures)
