use mathlib.Core.Path.{sym, ap, ◌∙◌}
use borrow.Author.Tests.{leb-false}
use Rattle.place.specs.Items.{place_of}
use Rattle.place.proofs.Run.{few}
use Rattle.place.proofs.alignment.Goals as goal
use Rattle.place.proofs.alignment.Goals.{then-quiet, else-quiet}

pub returns-else-holds_run : goal.returns-else-holds_run
returns-else-holds_run c =
    let f = c.if-holds_run.false in
    elim c.if-quiet.branch [
      | then-quiet w ↦ let v = w.value-is in absurd (cc)
      | else-quiet w ↦
          rw w.if-quiet.false
          (sym (ap (place_of c.args.head.base) (few _ _ (leb-false _ _ (sym w.holds_run.ensures ∙ sym w.value-is ∙ f)))))
    ]
