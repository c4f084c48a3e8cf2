use mathlib.Core.Path.{refl, sym, ◌∙◌}
use mathlib.Core.Bool.{true, false}
use Rattle.levels.proofs.Books.{best-done, best-unsound}
use Rattle.depth_exports.specs.Told.{arrays}
use Rattle.depth_exports.proofs.Laws.{is-sound, is-unsound, bids-lie, asks-lie, not-refused}
use Rattle.depth_exports.proofs.reads.depth_best.Goals as goal

pub returns-then-not-sound : goal.returns-then-not-sound
returns-then-not-sound c =
    rw (c.refused.ensures.code, c.refused.ensures.number) (sym (best-unsound _ _ (is-unsound _ _ c.sound.ensures c.if-not-sound.true)), λ z. refl, λ z. refl, not-refused refl, not-refused refl)

pub last-requires : goal.last-requires
last-requires c =
    (bids-lie (arrays c.args.bid_prices.now c.args.bid_sizes.now c.args.ask_prices.now c.args.ask_sizes.now) c.args.bids c.args.asks (is-sound _ _ c.sound.ensures c.if-not-sound.false)).0

pub last-requires-else-bid : goal.last-requires-else-bid
last-requires-else-bid c =
    (asks-lie (arrays c.args.bid_prices.now c.args.bid_sizes.now c.args.ask_prices.now c.args.ask_sizes.now) c.args.bids c.args.asks (is-sound _ _ c.sound.ensures c.if-not-sound.false)).0

pub returns-then-bid : goal.returns-then-bid
returns-then-bid c =
    let l = c.last.ensures in
    rw c.if-bid.true (l.0 ∙ sym (best-done _ true (is-sound _ _ c.sound.ensures c.if-not-sound.false)), not-refused refl, not-refused refl, l.1, l.2)

pub returns-else-bid : goal.returns-else-bid
returns-else-bid c =
    let l = c.last-else-bid.ensures in
    rw c.if-bid.false (l.0 ∙ sym (best-done _ false (is-sound _ _ c.sound.ensures c.if-not-sound.false)), not-refused refl, not-refused refl, l.1, l.2)
