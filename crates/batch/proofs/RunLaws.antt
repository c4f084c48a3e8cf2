-- A list of calls under way.
use Rattle.std.specs.Prelude.{Option, None, Some}
use mathlib.Core.Path.{◌≡◌, refl, sym, ap, ◌∙◌}
use mathlib.Core.List.{List, ◌∷◌}
use mathlib.Core.Bool.{Bool, cond}
use Prim.Native.Nat.{ℕ, suc, ◌+◌, ◌-◌, ◌*◌, ◌/◌, ◌≤◌, ◌<◌}
use native.Mathlib.Nat.{sub-zero}
use native.Mathlib.Omega.{arith}
use lib.ListN.{length, get_or, take, drop}
use lib.Seq.{drop-drop}
use borrow.Author.Tests.{le-ltb}
use Rattle.rules.specs.Lists.{maybe}
use Rattle.words.specs.Words.{part}
use Rattle.words.proofs.Parts.{part_length}
use Rattle.store.specs.Store.{market_of, Sound}
use Rattle.output.specs.Output.{records_words, reports_words}
use Rattle.batch.specs.declared.Counts.{Counts}
use Rattle.batch.specs.declared.Stop.{Stop}
use Rattle.batch.specs.Batch.{calls_in, Ran, after_call, call_next, next, run, why, stop, start, Lists, lists, room_in, answers_words, BatchSaid, ran, stops, Runs}
use Rattle.batch.specs.Turn.{Reasons, did_so, Stands, Went, Turns, TurnRoom}
use Rattle.batch.proofs.TurnLaws.{calls_are}

-- the words of the i-th call
abbrev row : ℕ → List ℕ → List ℕ
row i calls = part (8 * i) (8 * i + 8) calls

-- the calls from the i-th on
abbrev from : ℕ → List ℕ → List (List ℕ)
from i calls = calls_in (length calls / 8 - i) (drop (8 * i) calls)

from-here : (i : ℕ) (calls : List ℕ) → i < length calls / 8 → from i calls ≡ row i calls ∷ from (i + 1) calls
unfolding calls_in
from-here i calls h =
    let n : length calls / 8 - i ≡ suc (length calls / 8 - (i + 1)) = omega arith in
    let e : 8 ≡ (8 * i + 8) - 8 * i = omega arith in
    let f : 8 * i + 8 ≡ 8 * (i + 1) = omega arith in
    ap (λ (m : ℕ). calls_in m (drop (8 * i) calls)) n
    ∙ (λ j. take (e j) (drop (8 * i) calls) ∷ calls_in (length calls / 8 - (i + 1)) ((drop-drop 8 (8 * i) calls ∙ ap (λ (m : ℕ). drop m calls) f) j))

-- after i calls what was done is in the lists, and the rest of the list goes on from there
pub record Under (calls : List ℕ) (b : Lists) (i : ℕ) (c : Counts) (now : Lists) : Type 0 where
  pub index : c.calls ≡ i
  pub done : Ran
  pub same : ran calls b ≡ run (room_in b) (from i calls) done
  pub same_stop : stops calls b ≡ stop (room_in b) (from i calls) done
  pub stands : Stands done b c now

pub under_first : (calls s v q z : List ℕ) → Sound s → Under calls (lists s v q z) 0 (record { calls = 0; records = 0; reports = 0 }) (lists s v q z)
unfolding records_words reports_words answers_words
under_first calls s v q z h =
    let n = sym (sub-zero (length calls / 8)) in
    record {
      index = refl;
      done = start (market_of s);
      same = ap (λ (n : ℕ). run (room_in (lists s v q z)) (calls_in n calls) (start (market_of s))) n;
      same_stop = ap (λ (n : ℕ). stop (room_in (lists s v q z)) (calls_in n calls) (start (market_of s))) n;
      stands = record {
        leaves = λ x. record { answered = refl; market = refl; sound = h; size = refl; out = refl; reports = refl; answers = refl };
        out_size = refl;
        reports_size = refl;
        answers_size = refl;
        out_fits = omega arith;
        reports_fit = omega arith;
      };
    }

module _ {calls : List ℕ} {b : Lists} {i : ℕ} {c : Counts} {now : Lists} (u : Under calls b i c now) where
  -- the list ends here
  ends : (s : Stop) (a : BatchSaid) (now₁ : Lists) → ran calls b ≡ u.done → stops calls b ≡ s → a ≡ did_so c s → Stands u.done b c now₁ → Runs calls b a now₁
  ends s a now₁ p q e t = rw (p, q, e) (t.leaves s)

  pub turn-ready : i < length calls / 8 → i < length b.answers / 3 → TurnRoom (row i calls) now c
  turn-ready h l =
      let p = part_length (8 * i) (8 * i + 8) calls (omega arith) in
      let t = u.stands in
      let e = u.index in
      let z₁ = t.answers_size in
      let z₂ = t.out_size in
      let z₃ = t.reports_size in
      let f₂ = t.out_fits in
      let f₃ = t.reports_fit in
      record { sound = (t.leaves Stop.AllDone).sound; call = omega arith; out = omega arith; reports = omega arith; answers = omega arith }

  -- every call is done
  pub run-done : length calls / 8 ≤ i → (a : BatchSaid) → a ≡ did_so c Stop.AllDone → Runs calls b a now
  unfolding calls_in run stop
  run-done h a e =
      let z : length calls / 8 - i ≡ 0 = omega arith in
      ends Stop.AllDone a now
      (u.same ∙ ap (λ (x : ℕ). run (room_in b) (calls_in x (drop (8 * i) calls)) u.done) z)
      (u.same_stop ∙ ap (λ (x : ℕ). stop (room_in b) (calls_in x (drop (8 * i) calls)) u.done) z)
      e u.stands

  module _ (h : i < length calls / 8) where
    abbrev w : List ℕ
    w = row i calls

    goes_on : (o : Option Ran) → next (room_in b) w u.done ≡ o → ran calls b ≡ maybe u.done (run (room_in b) (from (i + 1) calls)) o
    unfolding run
    goes_on o e = u.same ∙ ap (λ (l : List (List ℕ)). run (room_in b) l u.done) (from-here i calls h) ∙ ap (maybe u.done (run (room_in b) (from (i + 1) calls))) e

    stops-on : (o : Option Ran) → next (room_in b) w u.done ≡ o → stops calls b ≡ maybe (why (room_in b) w u.done) (stop (room_in b) (from (i + 1) calls)) o
    unfolding stop
    stops-on o e =
        u.same_stop ∙ ap (λ (l : List (List ℕ)). stop (room_in b) l u.done) (from-here i calls h)
        ∙ ap (maybe (why (room_in b) w u.done) (stop (room_in b) (from (i + 1) calls))) e

    -- there is no room for the next answer
    pub run-full : length b.answers / 3 ≤ i → (a : BatchSaid) → a ≡ did_so c Stop.NoAnswers → Runs calls b a now
    unfolding next why
    run-full l a e =
        let k = u.done in
        let r = room_in b in
        let n = calls_are k b c now u.stands in
        let m = u.index in
        let f = le-ltb (length k.answers) r.answers (omega arith) in
        let p : next r w k ≡ None = ap (λ (t : Bool). cond t (after_call (call_next r w k) k) None) f in
        let q : why r w k ≡ Stop.NoAnswers = ap (λ (t : Bool). cond t (maybe Stop.NoCall (λ x. Stop.NoRoom) (call_next r w k)) Stop.NoAnswers) f in
        ends Stop.NoAnswers a now (goes_on None p) (stops-on None p ∙ q) e u.stands

    -- the next call is not done
    pub run-stopped : i < length b.answers / 3 → (now₁ : Lists) → Turns w now c now₁ None
        → (s : Stop) → Reasons (get_or w 0 0) s → (a : BatchSaid) → a ≡ did_so c s → Runs calls b a now₁
    run-stopped l now₁ t s f a g = go (next (room_in b) w u.done) refl (t.went u.done b u.stands)
      where
        go : (o : Option Ran) → next (room_in b) w u.done ≡ o → Went o u.done b c None now₁ → Runs calls b a now₁
        go None p q =
            let n = calls_are u.done b c now u.stands in
            let m = u.index in
            ends s a now₁ (goes_on None p) (stops-on None p ∙ f (room_in b) w u.done refl (omega arith)) g q
        go (Some k) p q = absurd q

    -- the next call is done
    pub under_next : (now₁ : Lists) (c₁ : Counts) → Turns w now c now₁ (Some c₁) → Under calls b (i + 1) c₁ now₁
    under_next now₁ c₁ t = go (next (room_in b) w u.done) refl (t.went u.done b u.stands)
      where
        go : (o : Option Ran) → next (room_in b) w u.done ≡ o → Went o u.done b c (Some c₁) now₁ → Under calls b (i + 1) c₁ now₁
        go None p q = absurd q
        go (Some k) p q = record { index = q.0 ∙ ap (λ (n : ℕ). n + 1) u.index; done = k; same = goes_on (Some k) p; same_stop = stops-on (Some k) p; stands = q.1 }
