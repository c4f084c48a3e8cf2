use mathlib.Core.Path.{sym, ◌∙◌}
use Rattle.rules.proofs.Tests.{ff≢tt}
use Rattle.words.proofs.Cases.{says-yes, says-no}
use Rattle.prints.proofs.Soundness.{counts-ready, counts-done, counts-old, counts-new}
use Rattle.prints.proofs.sound.counts_sound.Goals as goal
use Rattle.prints.proofs.sound.counts_sound.Goals.{then-count_run, else-count_run}

pub apart-requires : goal.apart-requires
apart-requires c =
    elim c.if-count_run.branch [
      | then-count_run w ↦
          record {
            lies = c.requires.1;
            rising = counts-ready c.args.c c.args.used c.args.area.now _ _ (says-yes _ c.count_run.ensures w.if-count_run.true);
            rising_2 =
                counts-ready c.args.c c.args.used c.args.area.now _ _
                (says-yes _ w.count_run-then-count_run.ensures (sym w.value-is ∙ c.if-count_run-2.true));
          }
      | else-count_run w ↦ absurd (ff≢tt (w.value-is ∙ w.if-count_run.false) c.if-count_run-2.true)
    ]

pub returns-then-count_run-2 : goal.returns-then-count_run-2
returns-then-count_run-2 c =
    elim c.if-count_run.branch [
      | then-count_run w ↦
          counts-done c.args.c c.args.used c.args.area.now c.apart.result
          (says-yes _ c.count_run.ensures w.if-count_run.true)
          (says-yes _ w.count_run-then-count_run.ensures (sym w.value-is ∙ c.if-count_run-2.true))
          c.apart.ensures
      | else-count_run w ↦ absurd (ff≢tt (w.value-is ∙ w.if-count_run.false) c.if-count_run-2.true)
    ]

pub returns-else-count_run-2 : goal.returns-else-count_run-2
returns-else-count_run-2 c =
    rw c.if-count_run-2.false
    (λ s.
    elim c.if-count_run.branch [
      | then-count_run w ↦ says-no _ w.count_run-then-count_run.ensures (sym w.value-is ∙ c.if-count_run-2.false) (counts-new _ _ _ s)
      | else-count_run w ↦ says-no _ c.count_run.ensures w.if-count_run.false (counts-old _ _ _ s)
    ])
