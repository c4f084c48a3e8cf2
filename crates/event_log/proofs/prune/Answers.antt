use native.Mathlib.Omega.{arith}
use Rattle.event_log.proofs.Changes.{prune-done}
use Rattle.event_log.proofs.prune.Goals as goal

pub returns-clause-result_value : goal.returns-clause-result_value
returns-clause-result_value c =
    let f = c.front_after.ensures in
    prune-done c.requires.0 (omega arith) f.0 f.1 c.args.t c.count_old-k.ensures.0
