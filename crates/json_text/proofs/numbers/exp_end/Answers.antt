use borrow.Author.Rules.{rules}
use Prim.Native.Nat.{◌+◌}
use lib.ListN.{drop}
use mathlib.Core.Path.{◌≡◌, sym, ◌∙◌, ap}
use Rattle.json_text.specs.Work.{digits1_rest, exp_rest, skip_sign}
use Rattle.json_text.proofs.EndLaws.{ends_at, ends_as}
use Rattle.json_text.proofs.NumberSteps.{exp-small, exp-large, exp-no}
use Rattle.json_text.proofs.Places.{place-behind}
use Rattle.json_text.proofs.numbers.exp_end.Goals as goal
use Rattle.json_text.proofs.numbers.exp_end.Goals.{then-b-eq101-via-then-b-eq101, then-b-eq101-via-else-b-eq101+then-b-eq69}

pub after_sign-requires : goal.after_sign-requires
after_sign-requires c =
    elim c.then-b-eq101.branch [
      | then-b-eq101-via-then-b-eq101 w ↦ place-behind c.args.text.now _ _ c.byte-b.ensures (search rules)
      | then-b-eq101-via-else-b-eq101+then-b-eq69 w ↦ place-behind c.args.text.now _ _ c.byte-b.ensures (search rules)
    ]

pub returns-then-b-eq101 : goal.returns-then-b-eq101
returns-then-b-eq101 c =
    let t = c.args.text.now in
    let p : exp_rest (drop c.args.at t) ≡ digits1_rest (skip_sign (drop (c.args.at + 1) t)) =
    elim c.then-b-eq101.branch [
      | then-b-eq101-via-then-b-eq101 w ↦ exp-small t _ _ c.byte-b.ensures w.if-b-eq101.true
      | then-b-eq101-via-else-b-eq101+then-b-eq69 w ↦ exp-large t _ _ c.byte-b.ensures w.if-b-eq69.true
    ] in
    ends_as t _ _ _ _ _ (search rules) (p ∙ ap digits1_rest (sym c.after_sign.ensures.0)) c.digits1_end.ensures

pub returns : goal.returns
returns c =
    let t = c.args.text.now in
    let p = exp-no t _ _ c.byte-b.ensures c.if-b-eq101.false c.if-b-eq69.false in
    ends_at t _ _ p (search rules) (search rules)
