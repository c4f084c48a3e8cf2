use mathlib.Core.Path.{◌≡◌, sym, ◌∙◌}
use native.Mathlib.Omega.{arith}
use Rattle.store.proofs.ConnLaws.{find-over, find-end}
use Rattle.line_list.proofs.ListedLaws.{not_lower, lower}
use Rattle.line_list.proofs.place_of.Goals as goal

pub loop-i-preserved : goal.loop-i-preserved
loop-i-preserved c =
    let conn = c.args.conn in
    c.loop-i.invariant ∙ find-over _ c.loop-i.i (not_lower conn) (omega arith) (lower conn _ _ c.conn_at.ensures (omega arith))

pub returns : goal.returns
returns c =
    let end : c.count-n.result ≡ c.loop-i.i = omega arith in
    end ∙ find-end _ c.loop-i.i (not_lower c.args.conn) (omega arith) ∙ sym c.loop-i.invariant
