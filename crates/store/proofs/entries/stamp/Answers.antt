use mathlib.Core.Path.{refl}
use Rattle.rules.specs.Log.{stamp}
use Rattle.store.proofs.EntryLaws.{below, head_done}
use Rattle.store.proofs.entries.stamp.Goals as goal

pub returns : goal.returns
returns c =
    let r = c.stamp-head.ensures in
    let q = c.head.ensures in
    head_done refl c.requires q c.stamp-head.result (stamp c.args.t) (below refl c.requires q r.base_value.1.1) (r.by_index _ _) c.put_head.ensures
