use mathlib.Core.Path.{refl, sym}
use Rattle.levels.proofs.Books.{trim-done, trim-unsound}
use Rattle.depth_exports.specs.Told.{arrays}
use Rattle.depth_exports.proofs.Laws.{is-sound, is-unsound, bids-lie, asks-lie, not-refused, reported}
use Rattle.depth_exports.proofs.depth_trim.Goals as goal

pub returns-then-not-sound : goal.returns-then-not-sound
returns-then-not-sound c =
    rw (c.refused.ensures.code, c.refused.ensures.number) (sym (trim-unsound _ _ _ (is-unsound _ _ c.sound.ensures c.if-not-sound.true)), λ z. refl)

pub trim-b-requires : goal.trim-b-requires
trim-b-requires c = bids-lie (arrays c.args.bid_prices.now c.args.bid_sizes.now c.args.ask_prices.now c.args.ask_sizes.now) c.args.bids c.args.asks (is-sound _ _ c.sound.ensures c.if-not-sound.false)

pub trim-a-requires : goal.trim-a-requires
trim-a-requires c =
    asks-lie (arrays c.args.bid_prices.now c.args.bid_sizes.now c.args.ask_prices.now c.args.ask_sizes.now) c.args.bids c.args.asks (is-sound _ _ c.sound.ensures c.if-not-sound.false)

pub returns : goal.returns
returns c =
    rw (
      trim-done _ _ _ (is-sound _ _ c.sound.ensures c.if-not-sound.false),
      ← (reported c.args.bid_reported c.args.best_bid c.then_some.ensures),
      ← (reported c.args.ask_reported c.args.best_ask c.then_some-2.ensures),
      ← (c.trim-b.ensures c.args.bid_sizes.now),
      ← (c.trim-a.ensures c.args.ask_sizes.now),
    )
    (refl, not-refused refl)
