use Rattle.std.proofs.Common.{ℕ, ◌-◌, ◌^◌, ◌<◌, subst, arith}
use Rattle.keys.proofs.Bytes.{Taken, taken_none, taken_more, taken-below}
use Rattle.keys.proofs.load.load_rest.Goals as goal

pub loop-k-init : goal.loop-k-init
loop-k-init c = (omega arith, taken_none c.args.s.now)

pub overflow_mul-w : goal.overflow_mul-w
overflow_mul-w c = omega (
  arith,
  (let small_is : c.loop-k.w < 2 ^ 48 = let l = c.loop-k in
      taken-below c.args.s.now l.k l.w 6 l.invariant.1 (omega arith) in small_is),
)

pub overflow_add-w : goal.overflow_add-w
overflow_add-w c = omega (
  arith,
  (let small_is : c.loop-k.w < 2 ^ 48 = let l = c.loop-k in
      taken-below c.args.s.now l.k l.w 6 l.invariant.1 (omega arith) in small_is),
)

pub loop-k-preserved : goal.loop-k-preserved
loop-k-preserved c =
    let l = c.loop-k in
    let s = c.args.s.now in
    let small : c.from.result < 256 = omega (arith, c.type_inv.s (l.k - 1), c.from.ensures) in
    (omega arith, taken_more s l.k l.w c.from.result l.invariant.1 (omega arith) c.from.ensures small)

pub returns : goal.returns
returns c =
    let a = c.args in
    let l = c.loop-k in
    let t : Taken a.s.now a.at l.w = subst (λ (k : ℕ). Taken a.s.now k l.w) (omega arith) l.invariant.1 in
    (t.is, taken-below a.s.now a.at l.w 7 t (omega arith))
