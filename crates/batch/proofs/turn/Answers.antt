use mathlib.Core.Path.{sym, ◌∙◌}
use native.Mathlib.Omega.{arith}
use Rattle.batch.proofs.TurnLaws.{records_fit, reports_fit, turn-stops, turn-goes}
use Rattle.batch.proofs.turn.Goals as goal
use Rattle.batch.proofs.turn.Goals.{else-told-eq0-via-then-told-eq0+else-told-number, else-told-eq0-via-else-told-eq0, then-told-eq0-2, else-told-eq0-2}

pub returns-then-told-number : goal.returns-then-told-number
returns-then-told-number c =
    let a = c.args in
    let p = c.requires in
    let x = c.call-told in
    turn-stops a.w.now a.k a.s.now a.out.now a.reports.now a.answers.now _ _ _ x.result x.ensures x.auto.out x.auto.reports p.out p.reports
    c.if-told-eq0.true (c.if-told-number.true ∙ c.number.ensures) p.answers

pub overflow_add-result-2 : goal.overflow_add-result-2
overflow_add-result-2 c =
    let a = c.args in
    let p = c.requires in
    let x = c.call-told in
    omega (
      arith,
      records_fit a.w.now a.k a.s.now a.out.now a.reports.now a.answers.now _ _ _ x.result x.ensures x.auto.out x.auto.reports p.out p.reports
          c.if-told-eq0-2.records (
            λ z. elim c.if-told-eq0-2.branch [ then-told-eq0-2 w ↦ w.records-is | else-told-eq0-2 w ↦ absurd (w.if-told-eq0-2.false z) ],
            λ z. elim c.if-told-eq0-2.branch [ then-told-eq0-2 w ↦ absurd (z w.if-told-eq0-2.true) | else-told-eq0-2 w ↦ w.records-is ],
          ),
    )

pub overflow_add-result-3 : goal.overflow_add-result-3
overflow_add-result-3 c =
    let a = c.args in
    let p = c.requires in
    let x = c.call-told in
    omega (arith, reports_fit a.w.now a.k a.s.now a.out.now a.reports.now a.answers.now _ _ _ x.result x.ensures x.auto.out x.auto.reports p.out p.reports)

pub returns : goal.returns
returns c =
    let a = c.args in
    let p = c.requires in
    let x = c.call-told in
    let y = c.put_answer in
    turn-goes a.w.now a.k a.s.now a.out.now a.reports.now a.answers.now _ _ _ x.result x.ensures x.auto.out x.auto.reports p.out p.reports
    _ y.ensures y.auto.answers p.answers c.if-told-eq0-2.records (
      λ z. elim c.if-told-eq0-2.branch [ then-told-eq0-2 w ↦ w.records-is | else-told-eq0-2 w ↦ absurd (w.if-told-eq0-2.false z) ],
      λ z. elim c.if-told-eq0-2.branch [ then-told-eq0-2 w ↦ absurd (z w.if-told-eq0-2.true) | else-told-eq0-2 w ↦ w.records-is ],
    )
    (λ z n. elim c.else-told-eq0.branch [
      | else-told-eq0-via-then-told-eq0+else-told-number w ↦ absurd (w.if-told-number.false (n ∙ sym w.number.ensures))
      | else-told-eq0-via-else-told-eq0 w ↦ absurd (w.if-told-eq0.false z)
    ])
