use mathlib.Core.Path.{◌≡◌, ap, sym, ◌∙◌}
use mathlib.Core.Bool.{Bool, true, false}
use mathlib.Core.List.{List}
use Prim.Native.Nat.{ℕ}
use lib.Ieee.{Float}
use Rattle.std.specs.Prelude.{Result, Ok, Err}
use Rattle.std.proofs.lemmas.Result.{err_from_is_err_and}
use Rattle.rules.specs.Answers.{Queried}
use Rattle.levels.specs.declared.Level.{Level}
use Rattle.levels.specs.declared.refusal.Refusal.{Refusal}
use Rattle.levels.specs.Depth.{side_of, sound, set_side, with_side, set}
use Rattle.levels.proofs.Books.{sound-bids, sound-asks, set-unsound, set-done}
use Rattle.depth.specs.declared.Side.{Side}
use Rattle.depth.specs.declared.Depth.{Depth}
use Rattle.depth.specs.Value.{side_by_value, book_of, said}
use Rattle.depth.proofs.Depth.set.Goals as goal

abbrev put : Bool → Depth → Side → Depth
put true d s = record { bids = s; asks = d.asks }
put false d s = record { bids = d.bids; asks = s }

-- what is answered of a side, and the side put back, is what is answered of the depth
module _ (d : Depth) (w : sound (book_of d) ≡ true) (p : ℕ) (x : Float) (s : Side) where
  answer : (bid : Bool) {q : Queried (List Level)} → q ≡ set_side bid p x (side_of bid (book_of d)) → with_side bid (book_of d) q ≡ set bid p x (book_of d)
  answer bid e = ap (with_side bid (book_of d)) e ∙ sym (set-done (book_of d) bid p x w)

  back : (bid : Bool) (r : Result (Unit {0}) Refusal) → said (λ _. side_by_value s) r ≡ set_side bid p x (side_of bid (book_of d))
      → said (λ _. book_of (put bid d s)) r ≡ set bid p x (book_of d)
  back true (Ok _) e = answer true e
  back false (Ok _) e = answer false e
  back true (Err _) e = answer true e
  back false (Err _) e = answer false e

pub returns-in_err-tested-clause-answer : goal.returns-in_err-tested-clause-answer
returns-in_err-tested-clause-answer c =
    let a = c.args in
    let p = err_from_is_err_and c.from_residual.result c.from_residual.ensures.1 in
    let (e, u) = c.in_err-tested.ensures.refused in
    rw (p.1, p.2, e) (sym (set-unsound (book_of a.self.now) a.bid a.price a.size u))

pub set-requires : goal.set-requires
set-requires c = sound-bids (book_of c.args.self.now) c.in_ok-tested.ensures.done

pub set-requires-else-bid : goal.set-requires-else-bid
set-requires-else-bid c = sound-asks (book_of c.args.self.now) c.in_ok-tested.ensures.done

pub returns-then-bid-clause-answer : goal.returns-then-bid-clause-answer
returns-then-bid-clause-answer c =
    let a = c.args in
    rw c.if-bid.true (back a.self.now c.in_ok-tested.ensures.done a.price a.size c.set.new.self true c.set.result c.set.ensures.answer)

pub returns-else-bid-clause-answer : goal.returns-else-bid-clause-answer
returns-else-bid-clause-answer c =
    let a = c.args in
    rw c.if-bid.false (back a.self.now c.in_ok-tested.ensures.done a.price a.size c.set-else-bid.new.self false c.set-else-bid.result c.set-else-bid.ensures.answer)
