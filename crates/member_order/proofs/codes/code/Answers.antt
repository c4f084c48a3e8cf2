use mathlib.Core.Path.{refl, sym, ◌∙◌}
use Prim.Native.Nat.{◌+◌, ◌*◌, ◌^◌, ◌<◌}
use native.Mathlib.Omega.{arith}
use Rattle.member_order.proofs.CodeSteps.{name-stays, name-past, coding-starts, coding-small, coding-on, coding-done}
use Rattle.member_order.proofs.codes.code.Goals as goal
use Rattle.member_order.proofs.codes.code.Goals.{then-d-ne0, else-d-ne0}

pub loop-i-init : goal.loop-i-init
loop-i-init c = (coding-starts _, omega arith)

pub overflow_mul-code : goal.overflow_mul-code
overflow_mul-code c = omega (
  arith,
  (let small_is : c.loop-i.code * 256 + c.digit-d.result < 2 ^ 48 = let d = c.digit-d in
      coding-small _ _ _ _ c.loop-i.invariant.0 (omega arith) d.result d.ensures.1 in small_is),
)

pub overflow_add-code : goal.overflow_add-code
overflow_add-code c =
    let d = c.digit-d in
    omega (arith, coding-small _ _ _ _ c.loop-i.invariant.0 (omega arith) d.result d.ensures.1)

pub overflow_add-end : goal.overflow_add-end
overflow_add-end c = omega arith

pub loop-i-preserved : goal.loop-i-preserved
loop-i-preserved c =
    let d = c.digit-d in
    elim c.if-d-ne0.branch [
      | then-d-ne0 w ↦ (
        rw w.end-is
            (coding-on _ _ _ _ c.loop-i.invariant.0 (omega arith) d.result d.ensures.1 _ _ d.ensures.0 refl
            (name-past _ c.loop-i.end (λ e. w.if-d-ne0.true (d.ensures.0 ∙ e)))),
        omega (arith, w.end-is),
      )
      | else-d-ne0 w ↦ (
        rw w.end-is
            (coding-on _ _ _ _ c.loop-i.invariant.0 (omega arith) d.result d.ensures.1 _ _ d.ensures.0 refl
            (name-stays _ (sym d.ensures.0 ∙ w.if-d-ne0.false))),
        omega (arith, w.end-is),
      )
    ]

pub returns : goal.returns
returns c = coding-done _ _ _ _ c.loop-i.invariant.0 (omega arith)
