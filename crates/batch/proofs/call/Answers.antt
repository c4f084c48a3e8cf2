use mathlib.Core.Path.{◌≡◌}
use mathlib.Core.Logic.{⊎_elim}
use lib.ListN.{get_or}
use Rattle.words.proofs.Cases.{below_or}
use native.Mathlib.Omega.{arith}
use Rattle.store.specs.Store.{market_of}
use Rattle.market_tick.specs.Turns.{lent_all}
use Rattle.steps.specs.Steps.{records, report_room}
use Rattle.batch.proofs.CallLaws.{call-0, call-9, subscribes, snapshots, events, prints, drops, promotes, resets, told_none, no_call}
use Rattle.batch.proofs.call.Goals as goal

pub returns-in-1 : goal.returns-in-1
returns-in-1 c =
    let a = c.args in
    told_none a.w.now (lent_all a.s.now a.out.now a.reports.now) _ _ c.of_changed.result (subscribes a.w.now a.s.now _ c.subscribe.result a.out.now a.reports.now c.in-1.is c.subscribe.ensures) c.of_changed.ensures

pub returns-in-2 : goal.returns-in-2
returns-in-2 c =
    let a = c.args in
    told_none a.w.now (lent_all a.s.now a.out.now a.reports.now) _ _ c.of_step.result (snapshots a.w.now a.s.now a.out.now _ _ c.snapshot.result a.reports.now c.in-2.is c.snapshot.ensures) c.of_step.ensures

pub returns-in-3 : goal.returns-in-3
returns-in-3 c =
    let a = c.args in
    told_none a.w.now (lent_all a.s.now a.out.now a.reports.now) _ _ c.of_step-in-3.result (events a.w.now a.s.now a.out.now _ _ c.book_event.result a.reports.now c.in-3.is c.book_event.ensures) c.of_step-in-3.ensures

pub returns-in-4 : goal.returns-in-4
returns-in-4 c =
    let a = c.args in
    told_none a.w.now (lent_all a.s.now a.out.now a.reports.now) _ _ c.of_step-in-4.result (prints a.w.now a.s.now a.out.now _ _ c.other.result a.reports.now c.in-4.is c.other.ensures) c.of_step-in-4.ensures

pub returns-in-5 : goal.returns-in-5
returns-in-5 c =
    let a = c.args in
    told_none a.w.now (lent_all a.s.now a.out.now a.reports.now) _ _ c.of_lost.result (drops a.w.now a.s.now a.out.now _ _ c.drop_conn.result a.reports.now c.in-5.is c.drop_conn.ensures) c.of_lost.ensures

pub returns-in-6 : goal.returns-in-6
returns-in-6 c =
    let a = c.args in
    told_none a.w.now (lent_all a.s.now a.out.now a.reports.now) _ _ c.of_lost-in-6.result (promotes a.w.now a.s.now a.out.now _ _ c.promote.result a.reports.now c.in-6.is c.promote.ensures) c.of_lost-in-6.ensures

pub returns-in-7 : goal.returns-in-7
returns-in-7 c =
    let a = c.args in
    told_none a.w.now (lent_all a.s.now a.out.now a.reports.now) _ _ c.of_changed-in-7.result (resets a.w.now a.s.now _ c.reset.result a.out.now a.reports.now c.in-7.is c.reset.ensures) c.of_changed-in-7.ensures

pub returns-in_default : goal.returns-in_default
returns-in_default c =
    let a = c.args in
    let w = a.w.now in
    let m = market_of a.s.now in
    no_call w (lent_all a.s.now a.out.now a.reports.now) c.of_changed-in_default.result
    (⊎_elim
    (λ l. let e : get_or w 0 0 ≡ 0 = omega arith in call-0 w m (records a.out.now) (report_room a.reports.now) e)
    (λ l. call-9 w m (records a.out.now) (report_room a.reports.now) l)
    (below_or (get_or w 0 0) 9))
    c.of_changed-in_default.ensures
