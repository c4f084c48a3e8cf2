use mathlib.Core.Path.{refl, sym}
use mathlib.Core.Bool.{true, false}
use Rattle.levels.proofs.Books.{sound-bids, sound-asks, set-unsound}
use Rattle.depth_exports.specs.Told.{arrays}
use Rattle.depth_exports.proofs.Laws.{is-sound, is-unsound, tells-set, tells-same}
use Rattle.depth_exports.proofs.depth_set.Goals as goal

pub returns-then-not-sound : goal.returns-then-not-sound
returns-then-not-sound c =
    rw (c.refused.ensures.code, c.refused.ensures.number) (sym (set-unsound _ _ _ _ (is-unsound _ _ c.sound.ensures c.if-not-sound.true)), λ z. refl)

pub set-answer-requires : goal.set-answer-requires
set-answer-requires c = sound-bids _ (is-sound _ _ c.sound.ensures c.if-not-sound.false)

pub set-answer-requires-else-bid : goal.set-answer-requires-else-bid
set-answer-requires-else-bid c = sound-asks _ (is-sound _ _ c.sound.ensures c.if-not-sound.false)

pub returns-then-bid : goal.returns-then-bid
returns-then-bid c =
    let a = c.set-answer.result in
    let t = c.of_set.ensures in
    let e = c.set-answer.ensures in
    rw c.if-bid.true (
      tells-set (arrays c.args.bid_prices.now c.args.bid_sizes.now c.args.ask_prices.now c.args.ask_sizes.now) c.args.bids c.args.asks _ _ _ _ true _ _ a t (is-sound _ _ c.sound.ensures c.if-not-sound.false) e.0,
      λ z. let (p, q) = tells-same a _ _ _ _ _ _ t e.1 z in rw (p, q),
    )

pub returns-else-bid : goal.returns-else-bid
returns-else-bid c =
    let a = c.set-answer-else-bid.result in
    let t = c.of_set-else-bid.ensures in
    let e = c.set-answer-else-bid.ensures in
    rw c.if-bid.false (
      tells-set (arrays c.args.bid_prices.now c.args.bid_sizes.now c.args.ask_prices.now c.args.ask_sizes.now) c.args.bids c.args.asks _ _ _ _ false _ _ a t (is-sound _ _ c.sound.ensures c.if-not-sound.false) e.0,
      λ z. let (p, q) = tells-same a _ _ _ _ _ _ t e.1 z in rw (p, q),
    )
