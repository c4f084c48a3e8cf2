use mathlib.Core.Path.{sym, ◌∙◌}
use Prim.Native.Nat.{◌+◌}
use native.Mathlib.Omega.{arith}
use lib.ListN.{drop_of_length-le}
use borrow.Author.Tests.{eq-eqb}
use Rattle.words.proofs.Tab.{length-tab, drop-tab-cons}
use Rattle.levels.specs.Work.{level_in, levels_of}
use Rattle.levels.proofs.tests.stands.Goals as goal

pub returns-then-i-count : goal.returns-then-i-count
returns-then-i-count c =
    let a = c.args in
    let f = level_in a.prices.now a.sizes.now in
    rw (sym c.level_allowed.ensures ∙ c.if-level_allowed.true, drop_of_length-le (levels_of a.prices.now a.sizes.now a.count) {i = a.i + 1} (omega (arith, length-tab a.count f)))
    (eq-eqb _ _ c.if-i-count.true)

pub returns-else-i-count : goal.returns-else-i-count
returns-else-i-count c =
    let a = c.args in
    rw (sym c.level_allowed.ensures ∙ c.if-level_allowed.true, drop-tab-cons a.count (a.i + 1) (level_in a.prices.now a.sizes.now) (omega arith)) c.better.ensures
