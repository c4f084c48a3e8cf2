use mathlib.Core.Path.{◌∙◌, sym}
use mathlib.Core.Bool.{not, ◌&&◌}
use Rattle.rules.specs.Lines.{conn_at, is_pending, someone}
use Rattle.store.specs.Store.{market_of}
use Rattle.store.proofs.ConnLaws.{fits-sound, lined-sound, line-told}
use Rattle.market_tick.proofs.TimeLaws.{other-late, none-late, way-nowhere}
use Rattle.market_tick.proofs.way_of.Goals as goal
use Rattle.market_tick.proofs.way_of.Goals.{else-pending-via-then-pending+else-any_in_line, else-pending-via-else-pending}

pub line_at-requires : goal.line_at-requires
line_at-requires c = (fits-sound _ c.requires.0 _ c.requires.1).at

pub any_in_line-requires : goal.any_in_line-requires
any_in_line-requires c = lined-sound _ c.requires.0

pub returns-else-pending : goal.returns-else-pending
returns-else-pending c =
    let u = c.args.s.now in
    let i = c.args.i in
    elim c.else-pending.branch [
      | else-pending-via-then-pending+else-any_in_line w ↦
          way-nowhere u i c.args.t c.args.same c.args.due
          (none-late (is_pending (conn_at i (market_of u)).line) (not c.args.due) (sym w.any_in_line.ensures ∙ w.if-any_in_line.false))
      | else-pending-via-else-pending w ↦
          let l = c.line_at in
          let p = c.pending in
          let pends = line-told u i c.requires.1 is_pending (λ v. p.result) l.result p.ensures l.ensures in
          way-nowhere u i c.args.t c.args.same c.args.due (other-late (someone (market_of u).lines && not c.args.due) (sym pends ∙ w.if-pending.false))
    ]
