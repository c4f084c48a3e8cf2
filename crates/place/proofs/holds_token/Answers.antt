-- No snapshot of token t stands before i.
use mathlib.Core.Path.{sym, ap, ◌∙◌}
use native.Mathlib.Omega.{arith}
use borrow.Author.Tests.{eq-eqb, ne_eqb}
use Rattle.rules.specs.Lines.{snapshot_of}
use Rattle.place.proofs.Next.{item-here, item-over, item-end}
use Rattle.place.proofs.holds_token.Goals as goal
use Rattle.place.proofs.holds_token.Goals.{in-Snapshot, in_default-2, in_default}

pub returns-then-matches : goal.returns-then-matches
returns-then-matches c =
    let l = c.loop-i in
    let m = c.if-matches.true in
    elim c.match-matches.branch [
      | in-Snapshot w ↦
          let e = ap (snapshot_of c.args.t) (sym c.item_at.ensures ∙ w.in-Snapshot.is) ∙ eq-eqb _ _ (omega arith) in
          item-here _ _ _ l.i (omega arith) e ∙ sym l.invariant
      | in_default-2 w ↦ let f = w.matches-is in absurd (cc)
      | in_default w ↦ let f = w.matches-is in absurd (cc)
    ]

pub loop-i-preserved : goal.loop-i-preserved
loop-i-preserved c =
    let l = c.loop-i in
    let m = c.if-matches.false in
    elim c.match-matches.branch [
      | in-Snapshot w ↦ let f = w.matches-is in absurd (cc)
      | in_default-2 w ↦
          let e = ap (snapshot_of c.args.t) (sym c.item_at.ensures ∙ w.in-Snapshot.is) ∙ ne_eqb _ _ (λ q. omega arith) in
          l.invariant ∙ item-over _ _ _ l.i (omega arith) e
      | in_default w ↦
          let e = ap (snapshot_of c.args.t) (sym c.item_at.ensures ∙ w.in_default.is) in
          l.invariant ∙ item-over _ _ _ l.i (omega arith) e
    ]

pub returns : goal.returns
returns c = item-end _ _ _ _ (omega arith) ∙ sym c.loop-i.invariant
