use Rattle.std.proofs.lemmas.Result.{err_from_is_err_and}
use native.Mathlib.Omega.{arith}
use Rattle.rules.specs.Lines.{line_of, line_for}
use Rattle.rules.specs.Calls.{snapshot}
use Rattle.rules.specs.Refusals.{Snapshot}
use Rattle.store.specs.Store.{market_of}
use Rattle.steps.specs.Steps.{records}
use Rattle.steps.proofs.StepLaws.{roomy, steps-short, steps-roomy, token-bad, token-good}
use Rattle.steps.proofs.snapshot.Goals as goal

pub returns-then-token-gt1 : goal.returns-then-token-gt1
returns-then-token-gt1 c = let a = c.args in token-bad a.conn a.token a.message a.t a.s.now a.out.now c.if-token-gt1.true

pub returns-in_err-room : goal.returns-in_err-room
returns-in_err-room c =
    let a = c.args in
    let m = market_of a.s.now in
    let p = err_from_is_err_and c.from_residual.result c.from_residual.ensures.1 in
    rw (p.1, p.2, c.in_err-room.ensures.0) (steps-short (Snapshot a.conn a.token a.message a.t (records a.out.now)) a.s.now a.out.now (snapshot (line_of a.conn m) a.token a.message a.t m (line_for a.conn m)) (token-good a.conn a.token a.message a.t a.s.now a.out.now (omega arith)) c.in_err-room.ensures.1)

pub snapshot-requires : goal.snapshot-requires
snapshot-requires c = (roomy _ _ c.requires c.in_ok-room.ensures, omega arith)

pub returns : goal.returns
returns c =
    let a = c.args in
    let m = market_of a.s.now in
    steps-roomy (Snapshot a.conn a.token a.message a.t (records a.out.now)) a.s.now a.out.now (snapshot (line_of a.conn m) a.token a.message a.t m (line_for a.conn m)) (token-good a.conn a.token a.message a.t a.s.now a.out.now (omega arith)) _ _ c.in_ok-room.ensures c.snapshot.ensures
