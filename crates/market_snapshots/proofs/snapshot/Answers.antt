use Rattle.std.specs.Prelude.{Ok, Err}
use mathlib.Core.Path.{ap, ◌∙◌}
use mathlib.Core.Logic.{inl, inr}
use Rattle.std.proofs.lemmas.Result.{err_from_is_err_and}
use Rattle.store.proofs.ConnLaws.{lined-sound}
use Rattle.market_snapshots.proofs.SnapshotLaws.{counted-here, counted-past}
use Rattle.market_snapshots.proofs.HeldLaws.{snap-other, snap-fits, snap-due, snap-past, snap-found}
use Rattle.market_snapshots.proofs.snapshot.Goals as goal

pub find-i-requires : goal.find-i-requires
find-i-requires c =
    lined-sound c.args.s.now c.requires.0.sound

pub returns-then-count-i : goal.returns-then-count-i
returns-then-count-i c =
    snap-found c.args.conn c.find-i.result c.args.token c.args.message c.args.t c.find-i.ensures
    (snap-past c.find-i.result c.args.token c.args.message c.args.t c.requires.0.sound (counted-past c.count.ensures c.if-count-i.true))

pub returns-in_err-step : goal.returns-in_err-step
returns-in_err-step c =
    let p = err_from_is_err_and c.from_residual.result c.from_residual.ensures.1 in
    rw (p.1, p.2)
    (snap-found c.args.conn c.find-i.result c.args.token c.args.message c.args.t c.find-i.ensures
    (snap-other c.args.token c.args.message c.args.t c.requires.0.sound (counted-here c.count.ensures c.if-count-i.false)
    c.step_of-stepped.result (c.step_of-stepped.ensures c.args.message) (Err _) c.in_err-step.was tt))

pub due_snapshot-requires : goal.due_snapshot-requires
due_snapshot-requires c = (
  c.requires.0,
  snap-fits c.args.token c.args.message c.args.t c.requires.0.sound (counted-here c.count.ensures c.if-count-i.false)
      c.step_of-stepped.result (c.step_of-stepped.ensures c.args.message) (c.in_ok-step.was ∙ ap Ok c.in-Apply.is),
)

pub returns-in-Apply : goal.returns-in-Apply
returns-in-Apply c =
    snap-found c.args.conn c.find-i.result c.args.token c.args.message c.args.t c.find-i.ensures
    (snap-due c.args.token c.args.message c.args.t c.requires.0.sound (counted-here c.count.ensures c.if-count-i.false) c.step_of-stepped.result
    (c.step_of-stepped.ensures c.args.message) (c.in_ok-step.was ∙ ap Ok c.in-Apply.is) c.due_snapshot.ensures)

pub returns-in-Duplicate : goal.returns-in-Duplicate
returns-in-Duplicate c =
    snap-found c.args.conn c.find-i.result c.args.token c.args.message c.args.t c.find-i.ensures
    (snap-other c.args.token c.args.message c.args.t c.requires.0.sound (counted-here c.count.ensures c.if-count-i.false)
    c.step_of-stepped.result (c.step_of-stepped.ensures c.args.message) _ c.in_ok-step.was
    (elim c.in-Duplicate.is [
      | inl p ↦ rw p tt
      | inr q ↦ elim q [ inl p ↦ rw p tt | inr r ↦ elim r [ inl p ↦ rw p tt | inr p ↦ rw p tt ] ]
    ]))
