use mathlib.Core.Path.{◌≡◌, ◌∙◌}
use mathlib.Core.List.{◌∷◌}
use Prim.Native.Nat.{◌+◌, ◌<◌}
use native.Mathlib.Omega.{arith}
use lib.ListN.{length, drop}
use Rattle.json_text.proofs.Bounds.{inside-by}
use Rattle.json_text.specs.Work.{up_to_ff}
use Rattle.member_order.specs.Names.{name_in, order_of}
use Rattle.member_order.proofs.NameSteps.{both-ended, first-equal, order-read}
use Rattle.member_order.proofs.compare.compare.Goals as goal

pub returns-then-x-y : goal.returns-then-x-y
returns-then-x-y c = c.order_of.ensures _ _ ∙ (let read_is : (let a = c.args in let w = a.names.now in order_of (up_to_ff (c.byte_in-x.result ∷ drop (c.loop-p.i + 1) w)) (up_to_ff (c.byte_in-y.result ∷ drop (c.loop-p.j + 1) w)) ≡ order_of (name_in w a.p) (name_in w a.q)) = order-read c.args.names.now _ _ _ _ c.byte_in-x.ensures c.byte_in-y.ensures ∙ c.loop-p.invariant in read_is)

pub returns-then-x : goal.returns-then-x
returns-then-x c = both-ended _ _ _ _ (omega arith) (omega arith) ∙ (let read_is : (let a = c.args in let w = a.names.now in order_of (up_to_ff (c.byte_in-x.result ∷ drop (c.loop-p.i + 1) w)) (up_to_ff (c.byte_in-y.result ∷ drop (c.loop-p.j + 1) w)) ≡ order_of (name_in w a.p) (name_in w a.q)) = order-read c.args.names.now _ _ _ _ c.byte_in-x.ensures c.byte_in-y.ensures ∙ c.loop-p.invariant in read_is)

pub overflow_add-i : goal.overflow_add-i
overflow_add-i c = omega (
  arith,
  ((let inside_is : (let w = c.args.names.now in (c.loop-p.i < length w) × (c.loop-p.j < length w)) = let w = c.args.names.now in
      (inside-by w c.loop-p.i 0xFF (λ q. omega (arith, c.byte_in-x.ensures)), inside-by w c.loop-p.j 0xFF (λ q. omega (arith, c.byte_in-y.ensures))) in inside_is)).0,
)

pub overflow_add-j : goal.overflow_add-j
overflow_add-j c = omega (
  arith,
  ((let inside_is : (let w = c.args.names.now in (c.loop-p.i < length w) × (c.loop-p.j < length w)) = let w = c.args.names.now in
      (inside-by w c.loop-p.i 0xFF (λ q. omega (arith, c.byte_in-x.ensures)), inside-by w c.loop-p.j 0xFF (λ q. omega (arith, c.byte_in-y.ensures))) in inside_is)).1,
)

pub loop-p-smaller : goal.loop-p-smaller
loop-p-smaller c = omega (
  arith,
  ((let inside_is : (let w = c.args.names.now in (c.loop-p.i < length w) × (c.loop-p.j < length w)) = let w = c.args.names.now in
      (inside-by w c.loop-p.i 0xFF (λ q. omega (arith, c.byte_in-x.ensures)), inside-by w c.loop-p.j 0xFF (λ q. omega (arith, c.byte_in-y.ensures))) in inside_is)).0,
)

pub loop-p-preserved : goal.loop-p-preserved
loop-p-preserved c =
    first-equal c.byte_in-x.result c.byte_in-y.result _ _ (omega arith) (omega arith) (omega arith) ∙ (let read_is : (let a = c.args in let w = a.names.now in order_of (up_to_ff (c.byte_in-x.result ∷ drop (c.loop-p.i + 1) w)) (up_to_ff (c.byte_in-y.result ∷ drop (c.loop-p.j + 1) w)) ≡ order_of (name_in w a.p) (name_in w a.q)) = order-read c.args.names.now _ _ _ _ c.byte_in-x.ensures c.byte_in-y.ensures ∙ c.loop-p.invariant in read_is)
