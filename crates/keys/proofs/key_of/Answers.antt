use Rattle.std.proofs.Common.{◌≡◌, ◌+◌, ◌*◌, ◌/◌, ◌++◌, length, ap, ◌∙◌, arith}
use Rattle.rules.specs.Quantities.{key}
use Rattle.keys.specs.declared.sip.State.{State}
use Rattle.keys.specs.Sip.{compressed, sip}
use Rattle.keys.specs.Keys.{prefix}
use Rattle.keys.proofs.Message.{hash-start, hash-prefix, hash-more, hash-end}
use Rattle.keys.proofs.key_of.Goals as goal

pub loop-i-init : goal.loop-i-init
loop-i-init c =
    let s = c.args.bytes.now in
    let one = c.new-first.ensures in
    let two = c.compress-second.ensures ∙ ap (λ (t : State). compressed t 0x9E3779B97F4A7C15) c.new.ensures in
    (rw one (hash-start s), rw two (hash-prefix s))

pub loop-i-preserved : goal.loop-i-preserved
loop-i-preserved c =
    let s = c.args.bytes.now in
    let l = c.loop-i in
    let m = c.load64-m in
    let next : 8 * (l.i + 1) ≡ 8 * l.i + 8 = omega arith in
    rw next (
      rw c.compress-first.ensures (hash-more l.first s (8 * l.i) (length s) (sip s) m.result l.invariant.0 (omega arith) m.ensures),
      rw c.compress-second-in-loop-i.ensures (hash-more l.second s (8 * l.i) (length s + 8) (sip (prefix ++ s)) m.result l.invariant.1 (omega arith) m.ensures),
    )

pub returns : goal.returns
returns c =
    let s = c.args.bytes.now in
    let l = c.loop-i in
    let r = c.load_rest-rest in
    let at : length s / 8 ≡ l.i = omega arith in
    let e = rw at at r.ensures in
    let one : c.finish-k0.result ≡ sip s =
    c.finish-k0.ensures ∙ hash-end l.first s (8 * l.i) (length s) (sip s) r.result l.invariant.0 (omega arith) e.0 in
    let two : c.finish-k1.result ≡ sip (prefix ++ s) =
    c.finish-k1.ensures ∙ hash-end l.second s (8 * l.i) (length s + 8) (sip (prefix ++ s)) r.result l.invariant.1 (omega arith) e.0 in
    λ i. key (one i) (two i)
