use Rattle.rules.specs.Log.{prune}
use Rattle.store.proofs.EntryLaws.{head_done, prune-ready}
use Rattle.store.proofs.entries.prune.Goals as goal

pub returns : goal.returns
returns c =
    let r = c.prune-pruned.ensures in
    head_done c.tables_start-end.ensures c.requires.sized c.head-head.ensures
    c.prune-pruned.result (prune c.args.t) r.fit.0.front r.result_value c.put_head.ensures
