use mathlib.Core.Path.{ap, refl}
use Prim.Native.Nat.{◌+◌}
use native.Mathlib.Omega.{arith}
use Rattle.rules.specs.Log.{clear}
use Rattle.store.proofs.EntryLaws.{below, head_done}
use Rattle.event_log.specs.declared.Head.{Head}
use Rattle.store.proofs.entries.clear_log.Goals as goal

pub returns : goal.returns
returns c =
    let r = c.clear.ensures in
    let q = c.head-head.ensures in
    head_done refl c.requires.sized q c.clear.new.head clear (below refl c.requires.sized q r.base_after.1.1) (r.by_index _ _) c.put_head.ensures
