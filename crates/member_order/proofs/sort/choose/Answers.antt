use mathlib.Core.Path.{◌≡◌}
use mathlib.Core.Bool.{cond}
use Prim.Native.Nat.{◌/◌}
use borrow.Author.Tests.{lt-ltb, le-ltb}
use lib.Dec.{ltb}
use Rattle.member_order.proofs.CodeOrder.{chosen}
use Rattle.member_order.proofs.sort.choose.Goals as goal
use Rattle.member_order.proofs.sort.choose.Goals.{then-c-d-2, else-c-d-2}

pub returns : goal.returns
returns c =
    let a = c.args in
    let e : c.if-c-d-2.word ≡ cond (ltb (a.x / 65536) (a.y / 65536)) a.x a.y =
    elim c.if-c-d-2.branch [
      | then-c-d-2 w ↦ rw (lt-ltb (a.x / 65536) (a.y / 65536) w.if-c-d-2.true) w.word-is
      | else-c-d-2 w ↦ rw (le-ltb (a.x / 65536) (a.y / 65536) w.if-c-d-2.false) w.word-is
    ] in
    chosen c.requires.2 c.requires.3 c.if-c-d.false _ _ _ _ _ _ e c.from-step.ensures
