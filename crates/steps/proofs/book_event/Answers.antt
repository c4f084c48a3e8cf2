use mathlib.Core.Path.{refl}
use Rattle.std.proofs.lemmas.Result.{err_from_is_err_and}
use Rattle.rules.specs.Lines.{line_of, line_for}
use Rattle.rules.specs.Calls.{book_event}
use Rattle.rules.specs.Refusals.{BookEvent, step}
use Rattle.store.specs.Store.{market_of}
use Rattle.steps.specs.Steps.{records}
use Rattle.steps.proofs.StepLaws.{roomy, steps-short, steps-roomy}
use Rattle.steps.proofs.book_event.Goals as goal

pub returns-in_err-room : goal.returns-in_err-room
unfolding step
returns-in_err-room c =
    let a = c.args in
    let m = market_of a.s.now in
    let p = err_from_is_err_and c.from_residual.result c.from_residual.ensures.1 in
    rw (p.1, p.2, c.in_err-room.ensures.0) (steps-short (BookEvent a.conn a.key a.message a.t (records a.out.now)) a.s.now a.out.now (book_event (line_of a.conn m) a.key a.message a.t m (line_for a.conn m)) refl c.in_err-room.ensures.1)

pub book_event-requires : goal.book_event-requires
book_event-requires c = roomy _ _ c.requires c.in_ok-room.ensures

pub returns : goal.returns
unfolding step
returns c =
    let a = c.args in
    let m = market_of a.s.now in
    steps-roomy (BookEvent a.conn a.key a.message a.t (records a.out.now)) a.s.now a.out.now (book_event (line_of a.conn m) a.key a.message a.t m (line_for a.conn m)) refl _ _ c.in_ok-room.ensures c.book_event.ensures
