use mathlib.Core.Path.{refl, sym, ap, ◌∙◌}
use Rattle.rules.specs.Answers.{value}
use Rattle.levels.proofs.Books.{sound-bids, bids_from-done, bids_from-unsound}
use Rattle.depth_exports.proofs.Laws.{is-sound, is-unsound, not-refused}
use Rattle.depth_exports.proofs.reads.depth_bid_from.Goals as goal

pub returns-then-not-sound : goal.returns-then-not-sound
returns-then-not-sound c =
    rw (c.refused.ensures.code, c.refused.ensures.number) (sym (bids_from-unsound _ _ (is-unsound _ _ c.sound.ensures c.if-not-sound.true)), λ z. refl)

pub bid_depth_from-requires : goal.bid_depth_from-requires
bid_depth_from-requires c = sound-bids _ (is-sound _ _ c.sound.ensures c.if-not-sound.false)

pub returns : goal.returns
returns c = (ap value c.bid_depth_from.ensures ∙ sym (bids_from-done _ _ (is-sound _ _ c.sound.ensures c.if-not-sound.false)), not-refused refl)
