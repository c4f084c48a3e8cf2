use mathlib.Core.Bool.{false}
use Rattle.store.proofs.ConnLaws.{fits-sound}
use Rattle.store.proofs.EntryLaws.{counts}
use Rattle.market_tick.proofs.QuietLaws.{enter-room, quiet-enters, quiet-tries}
use Rattle.market_tick.proofs.quiet_line_up.Goals as goal

pub events_held-requires : goal.events_held-requires
events_held-requires c = fits-sound _ c.requires.0.sound _ c.requires.1.0

pub end-end-requires : goal.end-end-requires
end-end-requires c = let s = c.requires.0.sound in (s.sized.header, (counts s).numbers)

pub enter-requires : goal.enter-requires
enter-requires c = enter-room c.requires.0 c.requires.1.0 c.requires.1.1

pub returns-then-events_held-eq0 : goal.returns-then-events_held-eq0
returns-then-events_held-eq0 c =
    let e = c.end-end in
    quiet-enters _ _ _
    c.events_held.ensures
    c.if-events_held-eq0.true
    e.ensures
    (c.enter.ensures e.result e.result false false c.lined_up.ensures)

pub returns : goal.returns
returns c =
    quiet-tries _ _ _
    c.events_held.ensures
    c.if-events_held-eq0.false
    c.try_align.ensures
