use borrow.Author.Tests.{le-leb}
use mathlib.Core.Path.{◌≡◌, refl, sym, ◌∙◌}
use mathlib.Core.Bool.{Bool, true, false, ◌&&◌}
use mathlib.Core.List.{List}
use Prim.Native.Nat.{ℕ, ◌+◌, ◌≤◌, ◌<◌}
use native.Mathlib.Omega.{arith}
use lib.Ieee.{Float}
use lib.ListN.{drop, drop_of_length-le}
use Rattle.words.proofs.Tab.{length-tab, drop-tab-cons}
use Rattle.levels.specs.declared.Level.{Level}
use Rattle.levels.specs.Depth.{level_allowed, better_than_next, in_order, side_sound}
use Rattle.levels.specs.Work.{level_in, levels_of}
use Rattle.levels.proofs.Reading.{over-unsound}
use Rattle.levels.proofs.tests.ordered_sound.Goals as goal

module _ (falling : Bool) (prices : List ℕ) (sizes : List Float) (n : ℕ) where
  abbrev side : List Level
  side = levels_of prices sizes n

  few : n ≤ 512 → side_sound falling side ≡ in_order falling side
  unfolding side_sound
  few h = rw (length-tab n (level_in prices sizes), le-leb n 512 h)

  all : (i : ℕ) → n ≤ i → in_order falling (drop i side) ≡ true
  unfolding in_order
  all i h = rw (drop_of_length-le side {i = i} (omega (arith, length-tab n (level_in prices sizes))))

  abbrev stands : ℕ → Bool
  stands i = level_allowed (level_in prices sizes i) && better_than_next falling (level_in prices sizes i) (drop (i + 1) side)

  module _ (i : ℕ) (r : Bool) (h : i < n) (e : r ≡ stands i) where
    over : r ≡ true → in_order falling (drop i side) ≡ in_order falling (drop (i + 1) side)
    unfolding in_order
    over t = rw (drop-tab-cons n i (level_in prices sizes) h, sym e ∙ t)

    stop : r ≡ false → in_order falling (drop i side) ≡ false
    unfolding in_order
    stop t = rw (drop-tab-cons n i (level_in prices sizes) h, sym e ∙ t)

pub returns-then-count-gt512 : goal.returns-then-count-gt512
returns-then-count-gt512 c =
    let a = c.args in
    sym (over-unsound a.falling _ (level_in a.prices.now a.sizes.now) c.if-count-gt512.true)

pub returns-then-not-stands : goal.returns-then-not-stands
returns-then-not-stands c =
    let a = c.args in
    sym
    (few a.falling a.prices.now a.sizes.now _ c.if-count-gt512.false
    ∙ c.loop-i.invariant
    ∙ stop a.falling a.prices.now a.sizes.now _ _ _ c.loop-i-test.true c.stands.ensures (c.if-not-stands.true))

pub loop-i-preserved : goal.loop-i-preserved
loop-i-preserved c =
    let a = c.args in
    c.loop-i.invariant ∙ over a.falling a.prices.now a.sizes.now _ _ _ c.loop-i-test.true c.stands.ensures (c.if-not-stands.false)

pub returns : goal.returns
returns c =
    let a = c.args in
    sym
    (few a.falling a.prices.now a.sizes.now _ c.if-count-gt512.false
    ∙ c.loop-i.invariant
    ∙ all a.falling a.prices.now a.sizes.now _ _ c.loop-i-test.false)

pub loop-i-init : goal.loop-i-init
loop-i-init c = refl
