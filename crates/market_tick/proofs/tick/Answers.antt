use mathlib.Core.Path.{◌∙◌}
use Rattle.store.proofs.ConnLaws.{lined-sound}
use Rattle.store.proofs.EntryLaws.{counts}
use Rattle.market_tick.proofs.TickLaws.{pruned-tabled, turns-ready, tick-done}
use Rattle.market_tick.proofs.tick.Goals as goal

pub some_due-due-requires : goal.some_due-due-requires
some_due-due-requires c = lined-sound _ c.requires.0.sound

pub prune-requires : goal.prune-requires
prune-requires c = let s = c.requires.0.sound in record { sized = s.sized; counts = counts s }

pub expire-requires : goal.expire-requires
expire-requires c = pruned-tabled c.args.t c.requires.0 c.prune.ensures

pub turns-k-requires : goal.turns-k-requires
turns-k-requires c =
    turns-ready c.args.reports.now c.args.t c.requires.0 c.prune.ensures c.expire.ensures c.args.answers.now c.requires.1.0 c.requires.1.1

pub returns : goal.returns
returns c =
    let p = c.prune in
    let e = c.expire in
    let t = c.turns-k in
    tick-done c.args.reports.now c.args.t c.requires.0 p.ensures e.ensures _ _ _ c.args.answers.now _ t.result (t.auto.s ∙ e.auto.s ∙ p.auto.s) c.some_due-due.ensures t.ensures
