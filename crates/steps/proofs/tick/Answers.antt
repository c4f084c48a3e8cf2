use mathlib.Core.Path.{sym, ap, ◌∙◌}
use native.Mathlib.Omega.{arith}
use Rattle.std.proofs.lemmas.Result.{err_from_is_err_and}
use Rattle.rules.specs.declared.Limits.{Limits}
use Rattle.steps.proofs.StepLaws.{tick-bad, tick-short, tick-few, tick-ready, tick-done}
use Rattle.steps.proofs.tick.Goals as goal

pub returns-then-bad_answers : goal.returns-then-bad_answers
returns-then-bad_answers c = let a = c.args in tick-bad a.s.now a.out.now a.reports.now a.answers.now a.t (sym c.bad_answers.ensures ∙ c.if-bad_answers.true)

pub returns-in_err-room : goal.returns-in_err-room
returns-in_err-room c =
    let a = c.args in
    let p = err_from_is_err_and c.from_residual.result c.from_residual.ensures.1 in
    rw (p.1, p.2, c.in_err-room.ensures.0)
    (tick-short a.s.now a.out.now a.reports.now a.answers.now a.t (sym c.bad_answers.ensures ∙ c.if-bad_answers.false) c.in_err-room.ensures.1)

pub returns-then-reports-lines : goal.returns-then-reports-lines
returns-then-reports-lines c =
    let a = c.args in
    tick-few a.s.now a.out.now a.reports.now a.answers.now a.t (sym c.bad_answers.ensures ∙ c.if-bad_answers.false) c.in_ok-room.ensures
    (omega (arith, ap (λ (x : Limits). x.L) c.limits-lines.ensures, c.if-reports-lines.true))

pub tick-requires : goal.tick-requires
tick-requires c =
    let a = c.args in
    tick-ready a.s.now a.out.now a.reports.now a.answers.now a.t (sym c.bad_answers.ensures ∙ c.if-bad_answers.false) c.in_ok-room.ensures c.requires
    (omega (arith, ap (λ (x : Limits). x.L) c.limits-lines.ensures, c.if-reports-lines.false))

pub returns : goal.returns
returns c =
    let a = c.args in
    tick-done a.s.now a.out.now a.reports.now a.answers.now a.t (sym c.bad_answers.ensures ∙ c.if-bad_answers.false) c.in_ok-room.ensures
    (omega (arith, ap (λ (x : Limits). x.L) c.limits-lines.ensures, c.if-reports-lines.false)) _ _ c.tick.ensures
