use mathlib.Core.Path.{sym, ◌∙◌}
use Rattle.levels.proofs.Books.{whole-done, whole-unsound}
use Rattle.depth_exports.proofs.reads.depth_check.Goals as goal

pub returns-then-sound : goal.returns-then-sound
returns-then-sound c = sym (whole-done _ (sym c.sound.ensures ∙ c.if-sound.true))

pub returns-else-sound : goal.returns-else-sound
returns-else-sound c =
    rw (c.refused.ensures.code, c.refused.ensures.number) (sym (whole-unsound _ (sym c.sound.ensures ∙ c.if-sound.false)))
