use mathlib.Core.Path.{sym, ◌∙◌}
use Rattle.place.proofs.Items.{token-item, items-put}
use Rattle.place.proofs.put_item.Goals as goal
use Rattle.place.proofs.put_item.Goals.{in-Snapshot, in-Event}

pub returns : goal.returns
returns c =
    elim c.match-item.branch [
      | in-Snapshot w ↦
          rw (c.copy_from_slice.ensures.after, w.row-is)
          (items-put c.args.i _ _ _ _ _ _ c.requires.inside (token-item _ _ _ _ ∙ sym w.in-Snapshot.is))
      | in-Event w ↦
          rw (c.copy_from_slice.ensures.after, w.row-is)
          (items-put c.args.i _ _ _ _ _ _ c.requires.inside (sym w.in-Event.is))
    ]
