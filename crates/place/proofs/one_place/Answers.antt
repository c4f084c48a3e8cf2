-- `Search` has what each loop has come to and a law for each way through a turn; here they are put at the code's places.
use Rattle.std.specs.Prelude.{Option, None, Some}
use mathlib.Core.Path.{◌≡◌, sym, ap, ◌∙◌}
use mathlib.Core.Bool.{Bool}
use mathlib.Core.List.{List}
use Prim.Native.Nat.{ℕ, ◌+◌, ◌-◌, ◌≤◌, ◌<◌}
use native.Mathlib.Nat.{add-zero}
use native.Mathlib.Omega.{arith}
use Rattle.rules.specs.Quantities.{Key, same}
use Rattle.rules.specs.Log.{key_at}
use Rattle.event_log.specs.Log.{key_in, entry_place}
use Rattle.event_log.specs.Answers.{match_answer}
use Rattle.event_log.proofs.Ring.{place_short}
use Rattle.log_borrowed.specs.View.{view_of}
use Rattle.log_borrowed.proofs.ViewLaws.{match-said, end-said}
use Rattle.place.specs.Items.{place_of}
use Rattle.place.proofs.Next.{next, item_key}
use Rattle.place.proofs.Search as find
use Rattle.place.proofs.one_place.Goals as goal
use Rattle.place.proofs.one_place.Goals.{then-q-count, else-q-count+else-x-held+else-items-i, else-loop-i-test, then-loop-i-test+in-None}

-- the log's keys
abbrev logged : ℕ → ℕ → List ℕ → ℕ → Key
logged g front keys i = key_in keys (entry_place g front i)

-- what the answer at entry l says
module _ (keys : List ℕ) (base count front g l : ℕ) (k : Key) where
  turn : base + l - base ≡ l
  turn = omega arith

  abbrev Answer : Option Bool → Type 0
  Answer m = m ≡ match_answer k (key_at (base + l) (view_of keys base count front g))

  is-matched : {m : Option Bool} (b : Bool) → m ≡ Some b → Answer m → (l < count) × (same (logged g front keys l) k ≡ b)
  is-matched b t e = rw turn at (match-said keys base count front g (base + l) (omega arith) k b (sym t ∙ e))

  is-past : {m : Option Bool} → m ≡ None → Answer m → count ≤ l
  is-past t e = rw turn at (end-said keys base count front g (base + l) (omega arith) k (sym t ∙ e))

pub returns-then-count-eq0 : goal.returns-then-count-eq0
returns-then-count-eq0 c =
    let a = c.args in
    sym (ap (place_of a.head.base) (find.no-log a.quiet _ a.head.count a.items.now a.held c.if-count-eq0.true))

pub returns-then-first-held : goal.returns-then-first-held
returns-then-first-held c =
    let a = c.args in
    let n = next a.items.now a.held 0 _ (omega arith) c.next_event-first.ensures in
    sym (ap (place_of a.head.base) (find.no-held a.quiet _ a.head.count a.items.now a.held _ c.if-first-held.true n))

pub places-init : goal.places-init
places-init c =
    let f = next _ _ 0 _ (omega arith) c.next_event-first.ensures in
    let s = find.search-start _ _ _ _ _ _ _ _ c.if-first-held.false f (next _ _ _ _ (omega arith) c.next_event-x.ensures) in
    find.pass _ _ _ _ _ _ c.if-first-held.false f s c.next_entry-q.ensures

-- the held event's key has another first word than the log's first
pub places-preserved-then-items-i : goal.places-preserved-then-items-i
places-preserved-then-items-i c =
    let a = c.args in
    let z = place_short a.g a.head.front 0 (omega arith) in
    let n = next _ _ _ _ (omega arith) c.next_event-x-else-q-count.ensures in
    find.skip _ c.places.invariant (omega arith) c.if-q-count.false c.if-x-held.false n (rw (z, add-zero) c.if-items-i.true)

pub loop-i-init : goal.loop-i-init
loop-i-init c =
    let s = c.places.invariant in
    elim c.if-q-count.branch [
      | then-q-count w ↦
          rw (w.q-is, w.x-is, w.j-is, w.i-is, w.l-is, w.cj-is)
          (find.pass-walk _ _ _ _ _ _ s.ahead.head_in s.ahead.head (find.walk_first s w.if-q-count.true) w.next_entry-q-then-q-count.ensures)
      | else-q-count+else-x-held+else-items-i w ↦
          rw (w.q-is, w.x-is, w.j-is, w.i-is, w.l-is, w.cj-is)
          (find.walk-later s _ w.if-q-count.false w.if-x-held.false (next _ _ _ _ (omega arith) w.next_event-x-else-q-count.ensures))
    ]

pub loop-i-preserved : goal.loop-i-preserved
loop-i-preserved c =
    let v = c.loop-i.invariant in
    let a = c.args in
    let s = is-matched a.keys.now _ _ a.head.front a.g _ (item_key a.items.now _) _ c.in-Some-true.is c.match_at.ensures in
    find.along v _ c.loop-i-test.true s.0 (s.1 ∙ c.in-Some-true.field-0-test) (next _ _ _ _ (omega arith) c.next_event-i.ensures)

pub places-preserved-in-Some-false : goal.places-preserved-in-Some-false
places-preserved-in-Some-false c =
    let v = c.loop-i.invariant in
    let a = c.args in
    let s = is-matched a.keys.now _ _ a.head.front a.g _ (item_key a.items.now _) _ c.in-Some-false.is c.match_at.ensures in
    find.off v (find.differ v c.loop-i-test.true s.0 (s.1 ∙ c.in-Some-false.field-0-test))

pub places-preserved-then-not-run-level : goal.places-preserved-then-not-run-level
places-preserved-then-not-run-level c = find.off c.loop-i.invariant ((let settled_is : find.Settled c.loop-i.invariant = let a = c.args in
    let v = c.loop-i.invariant in
    find.settled v
    (elim c.loop-i-test.branch [
      | else-loop-i-test w ↦ find.end-items v w.loop-i-test.false
      | then-loop-i-test+in-None w ↦
          find.end-log v (is-past a.keys.now _ _ a.head.front a.g _ (item_key a.items.now c.loop-i.i) w.in-None.is w.match_at.ensures)
    ]) in settled_is) ∙ c.if-not-run-level.true)

pub places-preserved : goal.places-preserved
places-preserved c =
    find.on c.loop-i.invariant ((let settled_is : find.Settled c.loop-i.invariant = let a = c.args in
    let v = c.loop-i.invariant in
    find.settled v
    (elim c.loop-i-test.branch [
      | else-loop-i-test w ↦ find.end-items v w.loop-i-test.false
      | then-loop-i-test+in-None w ↦
          find.end-log v (is-past a.keys.now _ _ a.head.front a.g _ (item_key a.items.now c.loop-i.i) w.in-None.is w.match_at.ensures)
    ]) in settled_is) ∙ c.if-not-run-level.false) (sym c.is_some.ensures ∙ c.if-is_some.false)

pub returns-then-x-held : goal.returns-then-x-held
returns-then-x-held c = find.search-end c.places.invariant (omega arith) c.if-q-count.false c.if-x-held.true

pub returns-then-is_some : goal.returns-then-is_some
returns-then-is_some c =
    sym (ap (place_of _) (find.twice c.loop-i.invariant ((let settled_is : find.Settled c.loop-i.invariant = let a = c.args in
    let v = c.loop-i.invariant in
    find.settled v
    (elim c.loop-i-test.branch [
      | else-loop-i-test w ↦ find.end-items v w.loop-i-test.false
      | then-loop-i-test+in-None w ↦
          find.end-log v (is-past a.keys.now _ _ a.head.front a.g _ (item_key a.items.now c.loop-i.i) w.in-None.is w.match_at.ensures)
    ]) in settled_is) ∙ c.if-not-run-level.false) (sym c.is_some.ensures ∙ c.if-is_some.true)))
