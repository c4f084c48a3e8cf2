use mathlib.Core.Path.{◌∙◌}
use Rattle.prints.proofs.Tables.{no-row-key, no-row-pair}
use Rattle.prints.proofs.no_row.Goals as goal

pub returns-then-none_free : goal.returns-then-none_free
returns-then-none_free c =
    let a = c.args in
    λ l p q.
    c.if-none_free.true
    ∙ no-row-key a.c a.area.now a.used a.key a.conn a.d l p q c.requires.fit c.requires.tables_sound a.found c.requires.found_in
    c.none_free.ensures
    c.if-none_free.true

pub returns-else-none_free : goal.returns-else-none_free
returns-else-none_free c =
    let a = c.args in
    λ l p q.
    no-row-pair a.c a.area.now a.used a.key a.conn a.d l p q c.requires.fit c.requires.tables_sound a.found c.requires.found_in
    c.none_free.ensures
    c.if-none_free.false
    c.none_free-else-none_free.ensures
