use mathlib.Core.Path.{◌≡◌, sym, ap}
use mathlib.Core.Logic.{inl, inr}
use Rattle.lines.specs.declared.Aging.{Aging}
use Rattle.lines.proofs.Laws.{left_value, time-ages}
use Rattle.lines.proofs.Line.time.Goals as goal

pub returns-in-Stays : goal.returns-in-Stays
returns-in-Stays c w =
    let x = c.aging-aging.result in
    let e : c.args.self ≡ left_value x c.args.self =
    elim c.in-Stays.is [
      | inl p ↦ ap (λ (y : Aging). left_value y c.args.self) (sym p)
      | inr q ↦ ap (λ (y : Aging). left_value y c.args.self) (sym q)
    ] in
    time-ages _ _ _ w _ (c.aging-aging.ensures w) _ e
