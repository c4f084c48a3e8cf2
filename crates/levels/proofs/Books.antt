-- A depth of two sides: what a sound one says of each side, and what each call answers of a sound one and of one that is not.
use Rattle.std.specs.Prelude.{Option}
use mathlib.Core.Path.{◌≡◌}
use mathlib.Core.Bool.{Bool, true, false}
use Prim.Native.Nat.{ℕ}
use lib.Ieee.{Float}
use Rattle.rules.specs.Answers.{refusal, value}
use Rattle.rules.proofs.Tests.{and-true-left, and-true-right}
use Rattle.levels.specs.Depth.{side_sound, set_side, trim_side, bid_depth_from, ask_depth_to, best_of, Book, side_of, sound, with_side}
use Rattle.levels.specs.Depth.{whole, set, trim, best, levels, bids_from, asks_to}

module _ (b : Book) where
  pub sound-bids : sound b ≡ true → side_sound true b.bids ≡ true
  unfolding sound
  sound-bids e = and-true-left (side_sound true b.bids) (side_sound false b.asks) e

  pub sound-asks : sound b ≡ true → side_sound false b.asks ≡ true
  unfolding sound
  sound-asks e = and-true-right (side_sound true b.bids) (side_sound false b.asks) e

  pub whole-unsound : sound b ≡ false → whole b ≡ refusal 1
  unfolding whole
  whole-unsound e = rw e

  pub whole-done : sound b ≡ true → whole b ≡ value b
  unfolding whole
  whole-done e = rw e

  pub set-unsound : (bid : Bool) (p : ℕ) (s : Float) → sound b ≡ false → set bid p s b ≡ refusal 1
  unfolding set
  set-unsound bid p s e = rw e

  pub set-done : (bid : Bool) (p : ℕ) (s : Float) → sound b ≡ true → set bid p s b ≡ with_side bid b (set_side bid p s (side_of bid b))
  unfolding set
  set-done bid p s e = rw e

  pub trim-unsound : (x y : Option ℕ) → sound b ≡ false → trim x y b ≡ refusal 1
  unfolding trim
  trim-unsound x y e = rw e

  pub trim-done : (x y : Option ℕ) → sound b ≡ true
      → trim x y b ≡ value (record { bids = trim_side true x b.bids; asks = trim_side false y b.asks })
  unfolding trim
  trim-done x y e = rw e

  pub best-unsound : (bid : Bool) → sound b ≡ false → best bid b ≡ refusal 1
  unfolding best
  best-unsound bid e = rw e

  pub best-done : (bid : Bool) → sound b ≡ true → best bid b ≡ value (best_of (side_of bid b))
  unfolding best
  best-done bid e = rw e

  pub levels-unsound : (bid : Bool) → sound b ≡ false → levels bid b ≡ refusal 1
  unfolding levels
  levels-unsound bid e = rw e

  pub levels-done : (bid : Bool) → sound b ≡ true → levels bid b ≡ value (side_of bid b)
  unfolding levels
  levels-done bid e = rw e

  pub bids_from-unsound : (floor : ℕ) → sound b ≡ false → bids_from floor b ≡ refusal 1
  unfolding bids_from
  bids_from-unsound floor e = rw e

  pub bids_from-done : (floor : ℕ) → sound b ≡ true → bids_from floor b ≡ value (bid_depth_from floor b.bids)
  unfolding bids_from
  bids_from-done floor e = rw e

  pub asks_to-unsound : (ceiling : ℕ) → sound b ≡ false → asks_to ceiling b ≡ refusal 1
  unfolding asks_to
  asks_to-unsound ceiling e = rw e

  pub asks_to-done : (ceiling : ℕ) → sound b ≡ true → asks_to ceiling b ≡ value (ask_depth_to ceiling b.asks)
  unfolding asks_to
  asks_to-done ceiling e = rw e
