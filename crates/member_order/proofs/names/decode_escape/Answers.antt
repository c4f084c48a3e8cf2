use mathlib.Core.Path.{sym, ◌∙◌}
use native.Mathlib.Omega.{arith}
use Rattle.member_order.proofs.DecodeLaws.{scalar-small, reads-one, reads-scalar, reads-pair, first-digits, second-digits, halves-read}
use Rattle.member_order.proofs.names.decode_escape.Goals as goal

pub returns-in-Some : goal.returns-in-Some
returns-in-Some c =
    let r = c.requires in
    reads-one c.args.text.now c.args.at _ r.1 r.2 c.byte.ensures _ c.in-Some.ensures.0 c.in-Some.ensures.1 c.one.ensures

pub unwrap-high-requires : goal.unwrap-high-requires
unwrap-high-requires c =
    let r = c.requires in
    first-digits c.args.text.now c.args.at _ r.1 r.2 c.byte.ensures c.in_default.ensures _ c.hex_at.ensures

pub utf8_of-requires : goal.utf8_of-requires
utf8_of-requires c = scalar-small _ (sym c.is_scalar.ensures ∙ c.if-is_scalar.true)

pub returns-then-is_scalar : goal.returns-then-is_scalar
returns-then-is_scalar c =
    let r = c.requires in
    let h = rw c.unwrap-high.ensures at c.hex_at.ensures in
    reads-scalar c.args.text.now c.args.at _ r.1 r.2 c.byte.ensures c.in_default.ensures _ h.0
    (sym c.is_scalar.ensures ∙ c.if-is_scalar.true) c.utf8_of.ensures

pub unwrap-low-requires : goal.unwrap-low-requires
unwrap-low-requires c =
    let r = c.requires in
    let h = rw c.unwrap-high.ensures at c.hex_at.ensures in
    second-digits c.args.text.now c.args.at _ r.1 r.2 c.byte.ensures c.in_default.ensures _ h.0 (sym c.is_scalar.ensures ∙ c.if-is_scalar.false) _ c.hex_at-2.ensures

pub overflow_sub-high : goal.overflow_sub-high
overflow_sub-high c =
    let r = c.requires in
    let h = rw c.unwrap-high.ensures at c.hex_at.ensures in
    let l = rw c.unwrap-low.ensures at c.hex_at-2.ensures in
    let z = halves-read c.args.text.now c.args.at _ r.1 r.2 c.byte.ensures c.in_default.ensures _ h.0 (sym c.is_scalar.ensures ∙ c.if-is_scalar.false) _ l.0 in
    omega (arith, z.high-low, z.high-high, z.low-low, z.low-high)

pub overflow_mul-high : goal.overflow_mul-high
overflow_mul-high c =
    let r = c.requires in
    let h = rw c.unwrap-high.ensures at c.hex_at.ensures in
    let l = rw c.unwrap-low.ensures at c.hex_at-2.ensures in
    let z = halves-read c.args.text.now c.args.at _ r.1 r.2 c.byte.ensures c.in_default.ensures _ h.0 (sym c.is_scalar.ensures ∙ c.if-is_scalar.false) _ l.0 in
    omega (arith, z.high-low, z.high-high, z.low-low, z.low-high)

pub overflow_add-high : goal.overflow_add-high
overflow_add-high c =
    let r = c.requires in
    let h = rw c.unwrap-high.ensures at c.hex_at.ensures in
    let l = rw c.unwrap-low.ensures at c.hex_at-2.ensures in
    let z = halves-read c.args.text.now c.args.at _ r.1 r.2 c.byte.ensures c.in_default.ensures _ h.0 (sym c.is_scalar.ensures ∙ c.if-is_scalar.false) _ l.0 in
    omega (arith, z.high-low, z.high-high, z.low-low, z.low-high)

pub overflow_sub-low : goal.overflow_sub-low
overflow_sub-low c =
    let r = c.requires in
    let h = rw c.unwrap-high.ensures at c.hex_at.ensures in
    let l = rw c.unwrap-low.ensures at c.hex_at-2.ensures in
    let z = halves-read c.args.text.now c.args.at _ r.1 r.2 c.byte.ensures c.in_default.ensures _ h.0 (sym c.is_scalar.ensures ∙ c.if-is_scalar.false) _ l.0 in
    omega (arith, z.high-low, z.high-high, z.low-low, z.low-high)

pub overflow_add-high-2 : goal.overflow_add-high-2
overflow_add-high-2 c =
    let r = c.requires in
    let h = rw c.unwrap-high.ensures at c.hex_at.ensures in
    let l = rw c.unwrap-low.ensures at c.hex_at-2.ensures in
    let z = halves-read c.args.text.now c.args.at _ r.1 r.2 c.byte.ensures c.in_default.ensures _ h.0 (sym c.is_scalar.ensures ∙ c.if-is_scalar.false) _ l.0 in
    omega (arith, z.high-low, z.high-high, z.low-low, z.low-high)

pub utf8_of-requires-2 : goal.utf8_of-requires-2
utf8_of-requires-2 c =
    let r = c.requires in
    let h = rw c.unwrap-high.ensures at c.hex_at.ensures in
    let l = rw c.unwrap-low.ensures at c.hex_at-2.ensures in
    let z = halves-read c.args.text.now c.args.at _ r.1 r.2 c.byte.ensures c.in_default.ensures _ h.0 (sym c.is_scalar.ensures ∙ c.if-is_scalar.false) _ l.0 in
    omega (arith, z.high-low, z.high-high, z.low-low, z.low-high)

pub returns : goal.returns
returns c =
    let r = c.requires in
    let h = rw c.unwrap-high.ensures at c.hex_at.ensures in
    let l = rw c.unwrap-low.ensures at c.hex_at-2.ensures in
    reads-pair c.args.text.now c.args.at _ r.1 r.2 c.byte.ensures c.in_default.ensures _ h.0
    (sym c.is_scalar.ensures ∙ c.if-is_scalar.false) _ l.0 c.utf8_of-2.ensures
