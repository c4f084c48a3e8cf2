use mathlib.Core.Path.{◌≡◌, sym, ◌∙◌}
use native.Mathlib.Omega.{arith}
use borrow.Author.Tests.{leb-true}
use Rattle.event_log.proofs.Search.{count-old-done}
use Rattle.event_log.proofs.count_old.Goals as goal

pub returns-then-stays : goal.returns-then-stays
returns-then-stays c =
    let a = c.args in (
      count-old-done a.g a.area.now a.head a.t c.loop-i.i (omega arith) c.loop-i.invariant (λ h. leb-true _ _ (sym c.stays.ensures ∙ c.if-stays.true)),
      omega arith,
    )

pub returns : goal.returns
returns c =
    let a = c.args in
    let i : c.loop-i.i ≡ a.head.count = omega arith in
    (count-old-done a.g a.area.now a.head a.t a.head.count (omega arith) (rw i at c.loop-i.invariant) (λ h. omega arith), omega arith)
