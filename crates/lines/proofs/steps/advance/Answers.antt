use mathlib.Core.Path.{sym, ◌∙◌}
use native.Mathlib.Omega.{arith}
use Prim.Native.Nat.{ℕ}
use Rattle.rules.specs.Quantities.{Key}
use Rattle.event_log.specs.Log.{key_in, entry_place}
use Rattle.log_borrowed.proofs.ViewLaws.{key-said, nowhere-said}
use Rattle.lines.proofs.Laws.{event-in-log, event-at-end}
use Rattle.lines.proofs.steps.advance.Goals as goal

pub in_log-requires : goal.in_log-requires
in_log-requires c =
    let a = c.args in
    let said = key-said a.keys.now a.head.base a.head.count a.head.front a.g a.next c.if-next-head.false _
    (sym c.in-Some.is ∙ c.key_at.ensures) in
    omega (arith, said.0)

pub returns-in-Some : goal.returns-in-Some
returns-in-Some c h msg =
    let a = c.args in
    let said = key-said a.keys.now a.head.base a.head.count a.head.front a.g a.next c.if-next-head.false _
    (sym c.in-Some.is ∙ c.key_at.ensures) in
    let f : ℕ → Key = λ i. key_in a.keys.now (entry_place a.g a.head.front i) in
    rw (event-in-log h a.head.base a.head.count f a.key msg a.next a.due0 a.due1 c.if-next-head.false said.0 _ said.1)
    c.in_log.ensures

pub returns-in-None : goal.returns-in-None
returns-in-None c h msg =
    let a = c.args in
    let said = nowhere-said a.keys.now a.head.base a.head.count a.head.front a.g a.next c.if-next-head.false
    (sym c.in-None.is ∙ c.key_at.ensures) in
    let f : ℕ → Key = λ i. key_in a.keys.now (entry_place a.g a.head.front i) in
    rw (event-at-end h a.head.base a.head.count f a.key msg a.next a.due0 a.due1 c.if-next-head.false said) c.at_end.ensures
