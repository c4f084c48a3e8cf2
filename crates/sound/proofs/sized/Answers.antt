use mathlib.Core.Path.{◌≡◌, sym, ◌∙◌}
use mathlib.Core.Bool.{true}
use Prim.Native.Nat.{◌<◌}
use native.Mathlib.Omega.{arith}
use Rattle.rules.specs.Quantities.{in_range}
use Rattle.store.specs.Store.{layout, layout_of, head_of}
use Rattle.words.proofs.Cases.{says, says-yes, says-no}
use Rattle.sound.specs.Parts.{FewNew, Ranged}
use Rattle.sound.proofs.HeaderLaws.{outside, short, beyond, crowded, ranged}
use Rattle.sound.proofs.sized.Goals as goal

pub returns-then-not-in_range : goal.returns-then-not-in_range
returns-then-not-in_range c =
    outside c.args.s.now c.limits-l.result c.limits-l.ensures (sym c.in_range.ensures ∙ c.if-not-in_range.true)

pub words_needed-requires : goal.words_needed-requires
words_needed-requires c = (let in-range-told_is : in_range c.limits-l.result ≡ true = sym c.in_range.ensures ∙ c.if-not-in_range.false in in-range-told_is)

pub returns-then-s-words_needed : goal.returns-then-s-words_needed
returns-then-s-words_needed c =
    let n = c.words_needed.ensures in
    short c.args.s.now c.limits-l.result c.limits-l.ensures (omega arith)

pub returns-then-l-front : goal.returns-then-l-front
returns-then-l-front c =
    beyond c.args.s.now c.limits-l.result c.limits-l.ensures (omega (arith, c.front.ensures, c.if-l-front.true))

pub returns : goal.returns
returns c =
    let n = c.words_needed.ensures in
    let w = c.args.s.now in
    let v : layout_of w ≡ layout = omega (arith, c.layout.ensures, c.if-layout-ne-LAYOUT.false) in
    let b : (head_of w).front < c.limits-l.result.G = omega (arith, c.front.ensures, c.if-l-front.false) in
    says c.few_new.result (Ranged w)
    (λ t.
    ranged w c.limits-l.result c.limits-l.ensures (omega arith) v ((let in-range-told_is : in_range c.limits-l.result ≡ true = sym c.in_range.ensures ∙ c.if-not-in_range.false in in-range-told_is)) (omega arith) b
    (says-yes (FewNew w) c.few_new.ensures t))
    (λ t. crowded w c.limits-l.result c.limits-l.ensures (says-no (FewNew w) c.few_new.ensures t))
