use Rattle.rules.specs.Log.{push}
use Rattle.store.proofs.EntryLaws.{log-done, push-ready}
use Rattle.store.proofs.entries.push.Goals as goal

pub returns : goal.returns
returns c =
    let r = c.push.ensures in
    log-done c.tables_start-end.ensures c.requires.sized c.head-head.ensures
    c.push.new.area c.push.new.head (push c.args.key c.args.t) r.fit.0 r.head_after c.put_head.ensures
