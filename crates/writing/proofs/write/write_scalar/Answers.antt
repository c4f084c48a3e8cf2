use mathlib.Core.Path.{sym, ◌∙◌}
use Rattle.writing.proofs.ScalarLaws.{minus-begins, digit-begins, neither-begins}
use Rattle.writing.proofs.write.write_scalar.Goals as goal
use Rattle.writing.proofs.write.write_scalar.Goals.{then-b-eq45-via-then-b-eq45, then-b-eq45-via-else-b-eq45+then-is_digit}

pub write_number-requires : goal.write_number-requires
write_number-requires c =
    elim c.then-b-eq45.branch [
      | then-b-eq45-via-then-b-eq45 w ↦ (c.requires.0, minus-begins _ (sym c.byte-b.ensures ∙ w.if-b-eq45.true))
      | then-b-eq45-via-else-b-eq45+then-is_digit w ↦ (c.requires.0, digit-begins _ _ c.byte-b.ensures (sym w.is_digit.ensures ∙ w.if-is_digit.true))
    ]

pub write_literal-requires : goal.write_literal-requires
write_literal-requires c =
    let e = c.byte-b.ensures in
    let p = c.requires in (
      p.0,
      e,
      c.if-b-eq34.false,
      λ z. p.1 (sym e ∙ z),
      λ z. p.2 (sym e ∙ z),
      neither-begins _ c.if-b-eq45.false (sym c.is_digit.ensures ∙ c.if-is_digit.false),
    )
