use mathlib.Core.Path.{refl, ◌∙◌}
use native.Mathlib.Omega.{arith}
use Rattle.store.proofs.ConnLaws.{lined-sound}
use Rattle.market_tick.proofs.TickLaws.{under_first, turn-ready, under_next, turns_stopped, turns-ended}
use Rattle.market_tick.proofs.turns.Goals as goal

pub loop-i-init : goal.loop-i-init
loop-i-init c = (under_first c.requires.0, refl)

pub turn-k-requires : goal.turn-k-requires
turn-k-requires c =
    let s = c.requires in
    turn-ready c.loop-i.invariant.0 (omega (arith, s.1.1)) s.1.0 (lined-sound _ s.0.sound).count

pub loop-i-preserved : goal.loop-i-preserved
loop-i-preserved c =
    let l = c.loop-i.invariant in
    let t = c.turn-k in
    (under_next l.0 (omega (arith, c.requires.1.1)) _ _ _ t.result refl t.ensures c.if-k.false t.auto.out t.auto.reports, t.auto.s ∙ l.1)

pub returns-after-loop-i : goal.returns-after-loop-i
returns-after-loop-i c = turns-ended c.loop-i.invariant.0 (omega (arith, c.requires.1.1))

pub returns-then-k : goal.returns-then-k
returns-then-k c =
    let t = c.turn-k in
    turns_stopped c.loop-i.invariant.0 (omega (arith, c.requires.1.1)) _ _ _ t.result refl t.ensures c.if-k.true
