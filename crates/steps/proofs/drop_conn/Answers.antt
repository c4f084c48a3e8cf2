use mathlib.Core.Path.{refl}
use Rattle.std.proofs.lemmas.Result.{err_from_is_err_and}
use Rattle.rules.specs.Calls.{drop_conn}
use Rattle.rules.specs.Refusals.{Drop, step}
use Rattle.store.specs.Store.{market_of}
use Rattle.steps.specs.Steps.{records}
use Rattle.steps.proofs.StepLaws.{roomy, steps-short, steps-roomy}
use Rattle.steps.proofs.drop_conn.Goals as goal

pub returns-in_err-room : goal.returns-in_err-room
unfolding step
returns-in_err-room c =
    let a = c.args in
    let m = market_of a.s.now in
    let p = err_from_is_err_and c.from_residual.result c.from_residual.ensures.1 in
    rw (p.1, p.2, c.in_err-room.ensures.0) (steps-short (Drop a.conn a.t (records a.out.now)) a.s.now a.out.now (drop_conn a.conn a.t m) refl c.in_err-room.ensures.1)

pub drop_conn-requires : goal.drop_conn-requires
drop_conn-requires c = roomy _ _ c.requires c.in_ok-room.ensures

pub returns : goal.returns
unfolding step
returns c =
    let a = c.args in
    let m = market_of a.s.now in
    steps-roomy (Drop a.conn a.t (records a.out.now)) a.s.now a.out.now (drop_conn a.conn a.t m) refl _ _ c.in_ok-room.ensures c.drop_conn.ensures
