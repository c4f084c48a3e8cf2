use mathlib.Core.Path.{sym, ◌∙◌}
use Rattle.rules.proofs.Tests.{ff≢tt}
use Rattle.words.proofs.Cases.{says-yes, says-no}
use Rattle.prints.proofs.Soundness.{keys-ready, keys-done, keys-old, keys-new}
use Rattle.prints.proofs.sound.keys_sound.Goals as goal
use Rattle.prints.proofs.sound.keys_sound.Goals.{then-key_run, else-key_run}

pub apart-requires : goal.apart-requires
apart-requires c =
    elim c.if-key_run.branch [
      | then-key_run w ↦
          let g =
          keys-ready c.args.keys c.args.area.now
          (says-yes _ c.key_run.ensures w.if-key_run.true)
          (says-yes _ w.key_run-then-key_run.ensures (sym w.value-is ∙ c.if-key_run-2.true)) in
          record { lies = c.requires; rising = g.0; rising_2 = g.1 }
      | else-key_run w ↦ absurd (ff≢tt (w.value-is ∙ w.if-key_run.false) c.if-key_run-2.true)
    ]

pub returns-then-key_run-2 : goal.returns-then-key_run-2
returns-then-key_run-2 c =
    elim c.if-key_run.branch [
      | then-key_run w ↦
          keys-done c.args.keys c.args.area.now c.apart.result
          (says-yes _ c.key_run.ensures w.if-key_run.true)
          (says-yes _ w.key_run-then-key_run.ensures (sym w.value-is ∙ c.if-key_run-2.true))
          c.apart.ensures
      | else-key_run w ↦ absurd (ff≢tt (w.value-is ∙ w.if-key_run.false) c.if-key_run-2.true)
    ]

pub returns-else-key_run-2 : goal.returns-else-key_run-2
returns-else-key_run-2 c =
    rw c.if-key_run-2.false
    (λ s.
    elim c.if-key_run.branch [
      | then-key_run w ↦ says-no _ w.key_run-then-key_run.ensures (sym w.value-is ∙ c.if-key_run-2.false) (keys-new _ _ s)
      | else-key_run w ↦ says-no _ c.key_run.ensures w.if-key_run.false (keys-old _ _ s)
    ])
