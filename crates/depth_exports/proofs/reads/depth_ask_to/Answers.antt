use mathlib.Core.Path.{refl, sym, ap, ◌∙◌}
use Rattle.rules.specs.Answers.{value}
use Rattle.levels.proofs.Books.{sound-asks, asks_to-done, asks_to-unsound}
use Rattle.depth_exports.proofs.Laws.{is-sound, is-unsound, not-refused}
use Rattle.depth_exports.proofs.reads.depth_ask_to.Goals as goal

pub returns-then-not-sound : goal.returns-then-not-sound
returns-then-not-sound c =
    rw (c.refused.ensures.code, c.refused.ensures.number) (sym (asks_to-unsound _ _ (is-unsound _ _ c.sound.ensures c.if-not-sound.true)), λ z. refl)

pub ask_depth_to-requires : goal.ask_depth_to-requires
ask_depth_to-requires c = sound-asks _ (is-sound _ _ c.sound.ensures c.if-not-sound.false)

pub returns : goal.returns
returns c = (ap value c.ask_depth_to.ensures ∙ sym (asks_to-done _ _ (is-sound _ _ c.sound.ensures c.if-not-sound.false)), not-refused refl)
