-- A call's refusals on a sound store, and what the calls below ask for.
use mathlib.Core.Path.{◌≡◌, refl, sym, ap, ◌∙◌}
use Rattle.std.specs.List.{list_any}
use mathlib.Core.List.{List, [], ◌∷◌}
use mathlib.Core.Bool.{Bool, true, false, not, ◌||◌}
use Prim.Native.Nat.{ℕ, ◌*◌, ◌/◌, ◌≤◌, ◌<◌}
use native.Mathlib.Omega.{arith}
use lib.Dec.{ltb, eqb}
use lib.ListN.{length}
use borrow.Author.Tests.{ltb-false, lt-ltb, le-ltb, eqb-true, eq-eqb, ne_eqb}
use Rattle.rules.specs.declared.Limits.{Limits}
use Rattle.rules.specs.Lists.{any}
use Rattle.rules.specs.Lines.{line_of, line_for}
use Rattle.rules.specs.Calls.{Outcome, refuse, snapshot}
use Rattle.rules.specs.Tick.{tick}
use Rattle.rules.specs.Refusals.{Call, Snapshot, Tick, step, short, room_needed, bad_answers}
use Rattle.rules.specs.Answers.{Said, number}
use Rattle.rules.proofs.Tests.{ff≢tt}
use Rattle.store.specs.Store.{limits_of, line_count, market_of, Sound}
use Rattle.store.proofs.MarketLaws.{market-limits, lines-count}
use Rattle.market.specs.Lent.{Lent, lent, Answers, Roomy}
use Rattle.market_tick.specs.Turns.{lent_all}
use Rattle.market.proofs.AnswerLaws.{refuses}
use Rattle.steps.specs.Steps.{Steps, records, report_room}

-- ---- the room of the output

seven : (n m : ℕ) → n ≤ m / 7 → 7 * n ≤ m
seven n m h = omega arith

-- by the limits of the words
pub short-said : (w : List ℕ) (n : ℕ) (l : Limits) → l ≡ limits_of w → ltb n (room_needed l) ≡ short n (market_of w)
short-said w n l e = ap (λ (x : Limits). ltb n (room_needed x)) (e ∙ sym (market-limits w))

pub roomy : (w v : List ℕ) → Sound w → short (records v) (market_of w) ≡ false → Roomy w v
roomy w v s e =
    let n = room_needed (limits_of w) in
    record { sound = s; room = seven n (length v) (ltb-false (records v) n (short-said w (records v) (limits_of w) refl ∙ e)) }

-- a call that asks for room first
module _ (x : Call) (w v : List ℕ) (o : Outcome) (q : step x (market_of w) ≡ refuse (short (records v) (market_of w)) 3 o) where
  pub steps-short : short (records v) (market_of w) ≡ true → Steps x (lent w v) (number 3) (lent w v)
  steps-short e = refuses 3 (lent w v) (q ∙ ap (λ (b : Bool). refuse b 3 o) e)

  pub steps-roomy : (a : Said) (after : Lent) → short (records v) (market_of w) ≡ false → Answers o (lent w v) a after → Steps x (lent w v) a after
  steps-roomy a after e r = rw (q, e) r

-- a snapshot's token comes before the room
module _ (c token msg t : ℕ) (w v : List ℕ) where
  abbrev snap : Call
  snap = Snapshot c token msg t (records v)

  pub token-bad : 1 < token → Steps snap (lent w v) (number 10) (lent w v)
  unfolding step
  token-bad h = refuses 10 (lent w v) (rw (lt-ltb 1 token h) refl)

  pub token-good : token ≤ 1 → step snap (market_of w) ≡ refuse (short (records v) (market_of w)) 3 (snapshot (line_of c (market_of w)) token msg t (market_of w) (line_for c (market_of w)))
  unfolding step
  token-good h = rw (le-ltb 1 token h) refl

-- ---- view answers

-- std's test of a list is the rules'
pub any-is : (p : ℕ → Bool) (xs : List ℕ) → list_any p xs ≡ any p xs
any-is p [] = refl
any-is p (x ∷ xs) = ap (λ (b : Bool). p x || b) (any-is p xs)

pub bad-by-one : (w answers : List ℕ) → length answers ≡ line_count w → (r : Bool) → r ≡ any (λ a. ltb 1 a) answers → r ≡ bad_answers answers (market_of w)
bad-by-one w answers e r p = rw (eq-eqb (length answers) (length (market_of w).lines) (e ∙ sym (lines-count w))) p

pub bad-by-count : (w answers : List ℕ) → (length answers ≡ line_count w → ⊥) → true ≡ bad_answers answers (market_of w)
bad-by-count w answers e = rw (ne_eqb (length answers) (length (market_of w).lines) (λ p. e (p ∙ lines-count w))) refl

-- good ones are one for each line
good-count : (w answers : List ℕ) → bad_answers answers (market_of w) ≡ false → length answers ≡ line_count w
good-count w answers e = go (eqb (length answers) (length (market_of w).lines)) refl e
  where
    go : (b : Bool) → eqb (length answers) (length (market_of w).lines) ≡ b → (not b || any (λ a. ltb 1 a) answers) ≡ false → length answers ≡ line_count w
    go true q f = eqb-true (length answers) (length (market_of w).lines) q ∙ lines-count w
    go false q f = absurd (ff≢tt f refl)

-- ---- the tick

three : (n m : ℕ) → n ≤ m / 3 → 3 * n ≤ m
three n m h = omega arith

module _ (w v q answers : List ℕ) (t : ℕ) where
  abbrev x : Call
  x = Tick answers t (records v) (report_room q)

  abbrev l : Lent
  l = lent_all w v q

  pub tick-bad : bad_answers answers (market_of w) ≡ true → Steps x l (number 11) l
  unfolding step
  tick-bad e = refuses 11 l (rw e refl)

  module _ (e : bad_answers answers (market_of w) ≡ false) where
    pub tick-short : short (records v) (market_of w) ≡ true → Steps x l (number 3) l
    unfolding step
    tick-short f = refuses 3 l (rw (e, f) refl)

    module _ (f : short (records v) (market_of w) ≡ false) where
      pub tick-few : report_room q < (limits_of w).L → Steps x l (number 3) l
      unfolding step
      tick-few h =
          let k = ap (λ (x : Limits). x.L) (market-limits w) in refuses 3 l (rw (e, f, lt-ltb (report_room q) (market_of w).limits.L (omega arith)) refl)

      pub tick-ready : Sound w → (limits_of w).L ≤ report_room q → Roomy w v × ((3 * (limits_of w).L ≤ length q) × (length answers ≡ line_count w))
      tick-ready s h = (roomy w v s f, (three (limits_of w).L (length q) h, good-count w answers e))

      pub tick-done : (limits_of w).L ≤ report_room q → (a : Said) (after : Lent) → Answers (tick answers t (market_of w)) l a after → Steps x l a after
      unfolding step
      tick-done h a after r =
          let k = ap (λ (x : Limits). x.L) (market-limits w) in rw (e, f, le-ltb (report_room q) (market_of w).limits.L (omega arith)) r
