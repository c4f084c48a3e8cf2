-- One way out for each answer: 12, 13, a level gone, its size replaced, nothing to do, a new level, 14.
use mathlib.Core.Path.{refl, sym, ◌∙◌}
use native.Mathlib.Omega.{arith}
use lib.Ieee.{of_bits}
use Rattle.levels.proofs.SideLaws.{sound-count, sound-falling}
use Rattle.levels.proofs.Setting.{reached, refused-12, refused-13, refused-14, counted, new, nothing, among, gone, again}
use Rattle.levels.proofs.ordered.set.Goals as goal

pub returns-then-not-price_allowed : goal.returns-then-not-price_allowed
returns-then-not-price_allowed c = (refused-12 _ _ _ _ (sym c.price_allowed.ensures ∙ c.if-not-price_allowed.true), (refl, refl))

pub returns-then-not-size_allowed : goal.returns-then-not-size_allowed
returns-then-not-size_allowed c =
    let p = sym c.price_allowed.ensures ∙ c.if-not-price_allowed.false in
    (refused-13 _ _ _ _ p (sym c.size_allowed.ensures ∙ c.if-not-size_allowed.true), (refl, refl))

pub place-at-requires : goal.place-at-requires
place-at-requires c =
    let a = c.args in (
      sound-count a.falling a.prices.now a.sizes.now a.count c.requires,
      sound-falling a.falling a.prices.now a.sizes.now a.count c.requires,
    )

pub standing-requires : goal.standing-requires
standing-requires c =
    let a = c.args in
    sound-count a.falling a.prices.now a.sizes.now a.count c.requires

pub remove-requires : goal.remove-requires
remove-requires c =
    let r = reached c.args.falling c.args.prices.now c.args.sizes.now c.args.count c.args.price c.place-at.result c.args.size c.standing.result c.requires (sym c.price_allowed.ensures ∙ c.if-not-price_allowed.false) (sym c.size_allowed.ensures ∙ c.if-not-size_allowed.false) c.place-at.ensures c.standing.ensures in
    omega (arith, counted r, among r c.if-standing.true)

pub overflow_sub-result : goal.overflow_sub-result
overflow_sub-result c =
    omega (
      arith,
      among (reached c.args.falling c.args.prices.now c.args.sizes.now c.args.count c.args.price c.place-at.result c.args.size c.standing.result c.requires (sym c.price_allowed.ensures ∙ c.if-not-price_allowed.false) (sym c.size_allowed.ensures ∙ c.if-not-size_allowed.false) c.place-at.ensures c.standing.ensures) c.if-standing.true,
    )

pub returns-then-size : goal.returns-then-size
unfolding of_bits
returns-then-size c = (
  gone (reached c.args.falling c.args.prices.now c.args.sizes.now c.args.count c.args.price c.place-at.result c.args.size c.standing.result c.requires (sym c.price_allowed.ensures ∙ c.if-not-price_allowed.false) (sym c.size_allowed.ensures ∙ c.if-not-size_allowed.false) c.place-at.ensures c.standing.ensures) c.if-standing.true c.if-size.true c.remove.ensures,
  tt,
)

pub returns-else-size : goal.returns-else-size
unfolding of_bits
returns-else-size c =
    let r = reached c.args.falling c.args.prices.now c.args.sizes.now c.args.count c.args.price c.place-at.result c.args.size c.standing.result c.requires (sym c.price_allowed.ensures ∙ c.if-not-price_allowed.false) (sym c.size_allowed.ensures ∙ c.if-not-size_allowed.false) c.place-at.ensures c.standing.ensures in
    (again r c.if-standing.true c.if-size.false (omega (arith, counted r, among r c.if-standing.true)) refl, tt)

pub returns-then-size-2 : goal.returns-then-size-2
unfolding of_bits
returns-then-size-2 c = (
  nothing (reached c.args.falling c.args.prices.now c.args.sizes.now c.args.count c.args.price c.place-at.result c.args.size c.standing.result c.requires (sym c.price_allowed.ensures ∙ c.if-not-price_allowed.false) (sym c.size_allowed.ensures ∙ c.if-not-size_allowed.false) c.place-at.ensures c.standing.ensures) c.if-standing.false c.if-size-2.true,
  tt,
)

pub returns-then-count-lt512 : goal.returns-then-count-lt512
unfolding of_bits
returns-then-count-lt512 c = (
  new (reached c.args.falling c.args.prices.now c.args.sizes.now c.args.count c.args.price c.place-at.result c.args.size c.standing.result c.requires (sym c.price_allowed.ensures ∙ c.if-not-price_allowed.false) (sym c.size_allowed.ensures ∙ c.if-not-size_allowed.false) c.place-at.ensures c.standing.ensures) c.if-standing.false c.if-size-2.false (omega arith) c.insert.ensures,
  tt,
)

pub returns-else-count-lt512 : goal.returns-else-count-lt512
unfolding of_bits
returns-else-count-lt512 c = (
  refused-14 (reached c.args.falling c.args.prices.now c.args.sizes.now c.args.count c.args.price c.place-at.result c.args.size c.standing.result c.requires (sym c.price_allowed.ensures ∙ c.if-not-price_allowed.false) (sym c.size_allowed.ensures ∙ c.if-not-size_allowed.false) c.place-at.ensures c.standing.ensures) c.if-standing.false c.if-size-2.false (omega arith),
  (refl, refl),
)
