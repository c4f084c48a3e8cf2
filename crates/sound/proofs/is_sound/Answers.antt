use mathlib.Core.Path.{◌≡◌}
use mathlib.Core.Bool.{true, false}
use Rattle.words.proofs.Cases.{says, says-yes, says-no}
use Rattle.store.specs.Store.{Sound}
use Rattle.store.proofs.EntryLaws.{counts}
use Rattle.sound.proofs.WholeLaws.{ranged-of, lines_of, whole_says}
use Rattle.sound.proofs.is_sound.Goals as goal
use Rattle.sound.proofs.is_sound.Goals.{then-sized, else-sized, then-counted, else-counted, then-tables_sound, else-tables_sound}

pub returns-then-lines_sound : goal.returns-then-lines_sound
returns-then-lines_sound c =
    elim c.if-tables_sound.branch [
      | then-tables_sound t ↦ elim c.if-counted.branch [
        | then-counted k ↦ elim c.if-sized.branch [
          | then-sized z ↦
              let counted : z.counted.result ≡ true = cc in
              let tables : k.tables_sound.result ≡ true = cc in
              let lines : t.lines_sound.result ≡ true = cc in
              whole_says _ (says-yes _ c.sized.ensures z.if-sized.true) (says-yes _ z.counted.ensures counted) (says-yes _ k.tables_sound.ensures tables)
              (says-yes _ t.lines_sound.ensures lines) c.items_fit.result c.items_fit.ensures
          | else-sized z ↦ absurd (cc)
        ]
        | else-counted k ↦ absurd (cc)
      ]
      | else-tables_sound t ↦ absurd (cc)
    ]

pub returns-else-lines_sound : goal.returns-else-lines_sound
returns-else-lines_sound c =
    says c.if-tables_sound.value (Sound c.args.s.now) (λ e. absurd (cc))
    (λ e s. elim c.if-tables_sound.branch [
      | then-tables_sound t ↦
          let lines : t.lines_sound.result ≡ false = cc in
          says-no _ t.lines_sound.ensures lines (lines_of _ s)
      | else-tables_sound t ↦ elim c.if-counted.branch [
        | then-counted k ↦
            let tables : k.tables_sound.result ≡ false = cc in
            says-no _ k.tables_sound.ensures tables s.market.prints.tables
        | else-counted k ↦ elim c.if-sized.branch [
          | then-sized z ↦
              let counted : z.counted.result ≡ false = cc in
              says-no _ z.counted.ensures counted (counts s)
          | else-sized z ↦ says-no _ c.sized.ensures z.if-sized.false (ranged-of _ s)
        ]
      ]
    ])
