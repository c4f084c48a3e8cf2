use mathlib.Core.Path.{◌∙◌}
use Rattle.store.proofs.ConnLaws.{lined-sound}
use Rattle.store.proofs.TableLaws.{tabled}
use Rattle.market.proofs.AskLaws.{subscribe-unlimited, subscribe-full, subscribe-ready, subscribe-done}
use Rattle.market.proofs.changes.subscribe.Goals as goal

pub returns-then-not-fits : goal.returns-then-not-fits
returns-then-not-fits c =
    subscribe-unlimited _ c.limits-limits.ensures _ _ _ (c.if-not-fits.true)

pub find-i-requires : goal.find-i-requires
find-i-requires c =
    lined-sound _ c.requires

pub returns-then-full : goal.returns-then-full
returns-then-full c =
    subscribe-full _ _ c.find-i.ensures c.count-lines.ensures c.limits-limits.ensures _ _ (c.if-not-fits.false) c.if-full.true

pub remove_counts-requires : goal.remove_counts-requires
remove_counts-requires c =
    tabled c.requires

pub subscribe-requires : goal.subscribe-requires
subscribe-requires c =
    let g =
    subscribe-ready _ _ c.find-i.ensures c.count-lines.ensures c.limits-limits.ensures _ c.requires c.if-full.false c.remove_counts.ensures in
    record { sound = g.0; s_value = g.1 }

pub returns : goal.returns
returns c =
    subscribe-done _ _ c.find-i.ensures c.count-lines.ensures c.limits-limits.ensures _ c.requires c.if-full.false c.remove_counts.ensures
    _ (c.if-not-fits.false) _ _ (c.subscribe.auto.s ∙ c.remove_counts.auto.s) c.subscribe.ensures
