-- The turns one after the other, and the tick.
use Rattle.std.specs.Prelude.{Option, None}
use mathlib.Core.Path.{◌≡◌, refl, sym, ap, ◌∙◌, subst}
use mathlib.Core.List.{List, [], ◌++◌}
use mathlib.Core.Bool.{Bool, true, false, not, ◌&&◌}
use Prim.Native.Nat.{ℕ, zero, suc, ◌+◌, ◌-◌, ◌*◌, ◌≤◌, ◌<◌}
use native.Mathlib.Omega.{arith}
use native.Mathlib.Numerals.{add-one}
use lib.Dec.{leb, ltb, eqb}
use lib.ListN.{length, get_or, length-set, length-map}
use Rattle.rules.specs.declared.Applied.{Applied}
use Rattle.rules.specs.declared.Expired.{Expired}
use Rattle.rules.specs.declared.Item.{Item}
use Rattle.rules.specs.declared.Limits.{Limits}
use Rattle.rules.specs.Lists.{is_some, nil}
use Rattle.rules.specs.Quantities.{age, align_timeout}
use Rattle.rules.specs.Log.{end, prune}
use Rattle.rules.specs.Prints.{expire_prints}
use Rattle.rules.specs.Lines.{Failed, InLine, Line, Market, Pending, Waiting, conn_at, events, some_due, someone, with_log, with_prints}
use Rattle.rules.specs.Entering.{Work, aligns, begin, on_market, pendings, round, rounds, sweep, take_over, try_line_up}
use Rattle.rules.specs.Calls.{Outcome, refused, did, done}
use Rattle.rules.specs.Answers.{word}
use Rattle.rules.specs.Tick.{Turn, on, stop, all_out, fails, quiet_line_up, quietly, rebuild_from, tick, time_out, turn, turns, upkeep}
use Rattle.rules.specs.Sound.{holdings}
use Rattle.rules.proofs.Tests.{by_cond, by-maybe, by-stamped, ff≢tt}
use Rattle.rules.proofs.SoundMoves.{Bound, SoundW}
use Rattle.rules.proofs.SoundCalls.{Safe, begin-sound}
use Rattle.rules.proofs.Soundness.{SafeTurn, upkeep-sound, turn-safe, turns-safe}
use Rattle.rules.proofs.Loops.{enter-lines, line_up-lines, take_over-lines}
use Rattle.store.specs.Store.{limits_of, line_count, market_of}
use Rattle.store.specs.Moves.{Moved, Tabled}
use Rattle.store.proofs.FrameLaws.{moved_on, moved-is, moved-limits, moved-sound}
use Rattle.store.proofs.MarketLaws.{market-limits, lines-count}
use Rattle.store.proofs.TableLaws.{tabled}
use Rattle.output.specs.Output.{records_words, over}
use Rattle.market_tick.specs.declared.Turned.{Turned}
use Rattle.moves.specs.Does.{Goes, Ready}
use Rattle.market.specs.Lent.{Answers, Roomy}
use Rattle.market_tick.specs.Turns.{Reported, Taken, Makes, Turns, TurnRoom, Ended, TurnsEnd, lent_all}
use Rattle.moves.proofs.DoesLaws.{begins, does-none, goes_then}
use Rattle.market.proofs.AnswerLaws.{ready-begin, roomy-then}
use Rattle.market_tick.proofs.TurnLaws.{reported-none, reported-then}

-- ---- no turn changes how many lines there are

abbrev Kept : ℕ → Work → Type 0
Kept n w = length w.market.lines ≡ n

try_line_up-kept : (n : ℕ) (quiet : Bool) (i now : ℕ) (w : Work) → Kept n w → Kept n (try_line_up quiet i now w)
unfolding try_line_up
try_line_up-kept n quiet i now w h =
    by-maybe (Kept n) (aligns quiet (conn_at i w.market).line w.market) h (λ p e. ap length (line_up-lines i now p w) ∙ length-set w.market.lines i _ ∙ h)

round-kept : (n k i now : ℕ) (w : Work) → Kept n w → Kept n (round k i now w)
unfolding round
round-kept n zero i now w h = h
round-kept n (suc k) i now w h = round-kept n k (suc i) now (try_line_up false i now w) (try_line_up-kept n false i now w h)

rounds-kept : (n k now : ℕ) (w : Work) → Kept n w → Kept n (rounds k now w)
unfolding rounds
rounds-kept n zero now w h = h
rounds-kept n (suc k) now w h =
    let w' = round (length w.market.lines) 0 now w in
    let h' = round-kept n (length w.market.lines) 0 now w h in
    by_cond (Kept n) (eqb (pendings w'.market.lines) (pendings w.market.lines)) (λ e. h') (λ e. rounds-kept n k now w' h')

sweep-kept : (n now : ℕ) (w : Work) → Kept n w → Kept n (sweep now w)
sweep-kept n now w h = rounds-kept n (suc (length w.market.lines)) now w h

take_over-kept : (n i : ℕ) (is : List Item) (now : ℕ) (w : Work) → Kept n w → Kept n (take_over i is now w)
take_over-kept n i is now w h = let l = take_over-lines i is now w in ap length l.3 ∙ length-set w.market.lines i _ ∙ h

quiet_line_up-kept : (n i now : ℕ) (is : List Item) (w : Work) → Kept n w → Kept n (quiet_line_up i now is w)
unfolding quiet_line_up
quiet_line_up-kept n i now is w h =
    by_cond (Kept n) (nil (events is)) (λ e. ap length (enter-lines i (end w.market.log) (end w.market.log) false false w) ∙ length-set w.market.lines i _ ∙ h)
    (λ e. try_line_up-kept n true i now w h)

abbrev KeptTurn : ℕ → Turn → Type 0
KeptTurn n (on rs w) = Kept n w
KeptTurn n (stop rs w) = Kept n w

fails-kept : (n i : ℕ) (w : Work) → Kept n w → KeptTurn n (fails i w)
fails-kept n i w h = length-set w.market.lines i _ ∙ h

time_out-kept : (n i : ℕ) (is : List Item) (at : Option ℕ) (since now : ℕ) (w : Work) → Kept n w → KeptTurn n (time_out i is at since now w)
unfolding time_out rebuild_from
time_out-kept n i is at since now w h =
    by_cond (KeptTurn n) (leb align_timeout (age now since))
    (λ q. by-stamped (KeptTurn n) at (fails-kept n i w h)
    (λ t. sweep-kept n now (take_over i is now (on_market (all_out now) w)) (take_over-kept n i is now (on_market (all_out now) w) (length-map w.market.lines _ ∙ h))))
    (λ q. h)

turn-kept : (n i : ℕ) (due same : Bool) (now : ℕ) (w : Work) (l : Line) → Kept n w → KeptTurn n (turn i due same now w l)
unfolding turn
turn-kept n i due same now w (InLine x a b) h = by_cond (KeptTurn n) (ltb x w.market.log.base) (λ q. fails-kept n i w h) (λ q. h)
turn-kept n i due same now w (Waiting is since) h = time_out-kept n i is None since now w h
turn-kept n i due same now w Failed h = h
turn-kept n i due same now w (Pending is at since) h =
    let m = w.market in
    by_cond (KeptTurn n) (someone m.lines && not due)
    (λ q. by_cond (KeptTurn n) (is_some (aligns false (Pending is at since) m))
    (λ r. sweep-kept n now (try_line_up false i now w) (try_line_up-kept n false i now w h))
    (λ r. by_cond (KeptTurn n) (quietly is at since same now m) (λ z. quiet_line_up-kept n i now is w h) (λ z. time_out-kept n i is at since now w h)))
    (λ q. time_out-kept n i is at since now w h)

-- ---- what a turn leaves is ready for the next

record TurnLeft (u v : List ℕ) (t : Turned) (u₁ v₁ : List ℕ) (t₁ : Turned) : Type 0 where
  ready : Ready u₁ v₁ t₁.n
  lines : line_count u₁ ≡ line_count u
  limits : limits_of u₁ ≡ limits_of u
  few : t₁.m ≤ t.m + 1

taken-left : {u v q u₁ v₁ q₁ : List ℕ} {t t₁ : Turned} {k : Work} {rs : List Expired} {b : Bool} → Ready u v t.n → length v₁ ≡ length v
    → Taken u v q t u₁ v₁ q₁ t₁ (begin (market_of u)) k rs b → SoundW (holdings (market_of u).lines, (market_of u).limits) k × (length rs ≤ 1) → Kept (length (market_of u).lines) k
    → TurnLeft u v t u₁ v₁ t₁
taken-left {u} {v} {q} {u₁} {v₁} {q₁} {t} {t₁} {k} {rs} r l g s n =
    let a = s.0.spent in
    let b = ap length g.goes.out in
    let c = g.goes.count in
    let e = ap (λ (m : Market). holdings m.lines) g.goes.moved.market in
    let h = r.room in
    let f = ap (λ (m : Market). length m.lines) g.goes.moved.market in
    let x = lines-count u in
    let y = lines-count u₁ in
    let z = g.reported.count in
    let o = s.1 in
    record {
      ready = record { sound = moved-sound r.sound g.goes.moved s.0.sound; room = omega arith };
      lines = omega arith;
      limits = moved-limits g.goes.moved ∙ s.0.limits ∙ market-limits u;
      few = omega arith;
    }

turn-left : (u v q : List ℕ) (t : Turned) (u₁ v₁ q₁ : List ℕ) (t₁ : Turned) (i now : ℕ) (due same : Bool) → Ready u v t.n → length v₁ ≡ length v
    → Turns (λ k. turn i due same now k (conn_at i (market_of u)).line) u v q t u₁ v₁ q₁ t₁ → TurnLeft u v t u₁ v₁ t₁
turn-left u v q t u₁ v₁ q₁ t₁ i now due same r l p =
    let k = begin (market_of u) in
    let line = (conn_at i (market_of u)).line in
    go (turn i due same now k line) (p k refl) (turn-safe Z i due same now k line refl (begins r.sound)) (turn-kept (length (market_of u).lines) i due same now k line refl)
  where
    Z : Bound
    Z = (holdings (market_of u).lines, (market_of u).limits)

    go : (x : Turn) → Makes x (λ rs k' b. Taken u v q t u₁ v₁ q₁ t₁ (begin (market_of u)) k' rs b) → SafeTurn Z x → KeptTurn (length (market_of u).lines) x → TurnLeft u v t u₁ v₁ t₁
    go (on rs k') g s n = taken-left r l g s n
    go (stop rs k') g s n = taken-left r l g s n

-- ---- the turns under way

-- from the call under way k: what it is now, its reports, and the turns to come
pub record Reached (due : Bool) (answers : List ℕ) (now : ℕ) (u v q u₁ v₁ q₁ : List ℕ) (t : Turned) (i : ℕ) (k : Work) : Type 0 where
  pub work : Work
  pub reports : List Expired
  pub goes : Goes u v 0 u₁ v₁ t.n k work
  pub reported : Reported reports q 0 q₁ t.m
  pub rest : turns (line_count u - i) i due answers now reports work ≡ turns (line_count u) 0 due answers now [] k

pub record Under (due : Bool) (answers : List ℕ) (now : ℕ) (u v q u₁ v₁ q₁ : List ℕ) (t : Turned) (i : ℕ) : Type 0 where
  pub ready : Ready u₁ v₁ t.n
  pub lines : line_count u₁ ≡ line_count u
  pub limits : limits_of u₁ ≡ limits_of u
  pub few : t.m ≤ i
  pub upto : i ≤ line_count u
  pub out_size : length v₁ ≡ length v
  pub reports_size : length q₁ ≡ length q
  pub reached : (k : Work) → k.market ≡ market_of u → Reached due answers now u v q u₁ v₁ q₁ t i k

-- how the turns go on after one
turns-on : (n i : ℕ) (due : Bool) (answers : List ℕ) (now : ℕ) (rs r : List Expired) (w w' : Work) → turn i due (eqb (get_or answers i 0) 1) now w (conn_at i w.market).line ≡ on r w'
    → turns (suc n) i due answers now rs w ≡ turns n (suc i) due answers now (rs ++ r) w'
unfolding turns
turns-on n i due answers now rs r w w' e = ap (λ (x : Turn). elim x [ on r w' ↦ turns n (suc i) due answers now (rs ++ r) w' | stop r w' ↦ did done (rs ++ r) w' ]) e

turns-stop : (n i : ℕ) (due : Bool) (answers : List ℕ) (now : ℕ) (rs r : List Expired) (w w' : Work) → turn i due (eqb (get_or answers i 0) 1) now w (conn_at i w.market).line ≡ stop r w'
    → turns (suc n) i due answers now rs w ≡ did done (rs ++ r) w'
unfolding turns
turns-stop n i due answers now rs r w w' e = ap (λ (x : Turn). elim x [ on r w' ↦ turns n (suc i) due answers now (rs ++ r) w' | stop r w' ↦ did done (rs ++ r) w' ]) e

module _ {due : Bool} {answers : List ℕ} {now : ℕ} {u v q : List ℕ} where
  pub under_first : Ready u v 0 → Under due answers now u v q u v q (record { n = 0; m = 0; stopped = false }) 0
  under_first r =
      record {
        ready = r;
        lines = refl;
        limits = refl;
        few = omega arith;
        upto = omega arith;
        out_size = refl;
        reports_size = refl;
        reached = λ k e. record { work = k; reports = []; goes = does-none r.sound.sized k e; reported = reported-none q 0; rest = ap (λ (n : ℕ). turns n 0 due answers now [] k) (omega arith) };
      }

  module _ {u₁ v₁ q₁ : List ℕ} {t : Turned} {i : ℕ} (x : Under due answers now u v q u₁ v₁ q₁ t i) (h : i < line_count u) where
    pub turn-ready : 3 * (limits_of u).L ≤ length q → line_count u ≤ (limits_of u).L → TurnRoom u₁ v₁ q₁ t i
    turn-ready a b = let l = x.lines in let s = x.reports_size in let f = x.few in record { ready = x.ready; reports = omega arith; here = omega arith }

    module _ (u₂ v₂ q₂ : List ℕ) (t₂ : Turned) {same : Bool} (s : same ≡ eqb (get_or answers i 0) 1) (p : Turns (λ k. turn i due same now k (conn_at i (market_of u₁)).line) u₁ v₁ q₁ t u₂ v₂ q₂ t₂) where
      -- the turn, from what is under way
      turned : (k : Work) → (e : k.market ≡ market_of u) → (y : Turn) → turn i due (eqb (get_or answers i 0) 1) now (x.reached k e).work (conn_at i (x.reached k e).work.market).line ≡ y
          → Makes y (λ rs k' b. Taken u₁ v₁ q₁ t u₂ v₂ q₂ t₂ (x.reached k e).work k' rs b)
      turned k e y z =
          let w = (x.reached k e).work in
          let m : w.market ≡ market_of u₁ = sym (x.reached k e).goes.moved.market in
          subst (λ (a : Turn). Makes a (λ rs k' b. Taken u₁ v₁ q₁ t u₂ v₂ q₂ t₂ w k' rs b))
          ((λ j. turn i due (s j) now w (conn_at i (sym m j)).line) ∙ z) (p w m)

      further : t₂.stopped ≡ false → (k : Work) → (e : k.market ≡ market_of u) → Reached due answers now u v q u₂ v₂ q₂ t₂ (i + 1) k
      further f k e = go _ refl (turned k e _ refl)
        where
          c : Reached due answers now u v q u₁ v₁ q₁ t i k
          c = x.reached k e

          go : (y : Turn) → turn i due (eqb (get_or answers i 0) 1) now c.work (conn_at i c.work.market).line ≡ y
              → Makes y (λ rs k' b. Taken u₁ v₁ q₁ t u₂ v₂ q₂ t₂ c.work k' rs b) → Reached due answers now u v q u₂ v₂ q₂ t₂ (i + 1) k
          go (on r w) z g =
              let a : suc (line_count u - (i + 1)) ≡ line_count u - i = omega arith in
              record {
                work = w;
                reports = c.reports ++ r;
                goes = goes_then (omega arith) c.goes g.goes;
                reported = reported-then (omega arith) c.reported g.reported;
                rest = ap (λ (n : ℕ). turns (line_count u - (i + 1)) n due answers now (c.reports ++ r) w) (add-one i)
                    ∙ sym (turns-on (line_count u - (i + 1)) i due answers now c.reports r c.work w z) ∙ ap (λ (n : ℕ). turns n i due answers now c.reports c.work) a ∙ c.rest;
              }
          go (stop r w) z g = absurd (ff≢tt f g.stopped)

      pub under_next : t₂.stopped ≡ false → length v₂ ≡ length v₁ → length q₂ ≡ length q₁ → Under due answers now u v q u₂ v₂ q₂ t₂ (i + 1)
      under_next f a b =
          let l = turn-left u₁ v₁ q₁ t u₂ v₂ q₂ t₂ i now due same x.ready a p in
          record {
            ready = l.ready;
            lines = l.lines ∙ x.lines;
            limits = l.limits ∙ x.limits;
            few = (let y = l.few in let z = x.few in omega arith);
            upto = omega arith;
            out_size = a ∙ x.out_size;
            reports_size = b ∙ x.reports_size;
            reached = further f;
          }

      -- a turn that stops the tick
      pub turns_stopped : t₂.stopped ≡ true → TurnsEnd due answers now u v q u₂ v₂ q₂ t₂
      turns_stopped f k e = go _ refl (turned k e _ refl)
        where
          c : Reached due answers now u v q u₁ v₁ q₁ t i k
          c = x.reached k e

          go : (y : Turn) → turn i due (eqb (get_or answers i 0) 1) now c.work (conn_at i c.work.market).line ≡ y
              → Makes y (λ rs k' b. Taken u₁ v₁ q₁ t u₂ v₂ q₂ t₂ c.work k' rs b) → Ended (turns (line_count u) 0 due answers now [] k) u v q u₂ v₂ q₂ t₂ k
          go (on r w) z g = absurd (ff≢tt g.stopped f)
          go (stop r w) z g =
              let a : suc (line_count u - (i + 1)) ≡ line_count u - i = omega arith in
              let o : did done (c.reports ++ r) w ≡ turns (line_count u) 0 due answers now [] k =
              sym (turns-stop (line_count u - (i + 1)) i due answers now c.reports r c.work w z) ∙ ap (λ (n : ℕ). turns n i due answers now c.reports c.work) a ∙ c.rest in
              subst (λ (y : Outcome). Ended y u v q u₂ v₂ q₂ t₂ k) o (goes_then (omega arith) c.goes g.goes, reported-then (omega arith) c.reported g.reported)

  -- all have had their turn
  pub turns-ended : {u₁ v₁ q₁ : List ℕ} {t : Turned} {i : ℕ} → Under due answers now u v q u₁ v₁ q₁ t i → line_count u ≤ i → TurnsEnd due answers now u v q u₁ v₁ q₁ t
  unfolding turns
  turns-ended {u₁} {v₁} {q₁} {t} {i} x h k e =
      let c = x.reached k e in
      let a : 0 ≡ line_count u - i = omega arith in
      let o : did done c.reports c.work ≡ turns (line_count u) 0 due answers now [] k = ap (λ (n : ℕ). turns n i due answers now c.reports c.work) a ∙ c.rest in
      subst (λ (y : Outcome). Ended y u v q u₁ v₁ q₁ t k) o (c.goes, c.reported)

-- ---- the tick

Done : Outcome → Type 0
Done (refused n) = ⊥
Done (did a rs k) = a ≡ done

turns-done : (n i : ℕ) (due : Bool) (answers : List ℕ) (now : ℕ) (rs : List Expired) (w : Work) → Done (turns n i due answers now rs w)
unfolding turns Done
turns-done zero i due answers now rs w = refl
turns-done (suc n) i due answers now rs w = go (turn i due (eqb (get_or answers i 0) 1) now w (conn_at i w.market).line) (λ r w'. turns-done n (suc i) due answers now (rs ++ r) w')
  where
    go : (t : Turn) → ((r : List Expired) (w' : Work) → Done (turns n (suc i) due answers now (rs ++ r) w'))
        → Done (elim t [ on r w' ↦ turns n (suc i) due answers now (rs ++ r) w' | stop r w' ↦ did done (rs ++ r) w' ])
    go (on r w') f = f r w'
    go (stop r w') f = refl

pub pruned-tabled : (now : ℕ) {u u₁ v : List ℕ} → Roomy u v → Moved u u₁ (with_log (prune now (market_of u).log) (market_of u)) → Tabled u₁
pruned-tabled now {u} r a =
    let s = r.sound.market in tabled (moved-sound r.sound a (record { limits_fit = s.limits_fit; lines = (upkeep-sound now (market_of u) s).lines; prints = s.prints }))

module _ (q : List ℕ) (now : ℕ) {u u₁ u₂ v : List ℕ} (r : Roomy u v) (a : Moved u u₁ (with_log (prune now (market_of u).log) (market_of u)))
    (b : Moved u₁ u₂ (with_prints (expire_prints now (market_of u₁).prints) (market_of u₁))) where
  upkept : Moved u u₂ (upkeep now (market_of u))
  upkept = moved-is refl (moved_on a b) (ap (λ (m : Market). with_prints (expire_prints now m.prints) m) a.market)

  upkept-limits : limits_of u₂ ≡ limits_of u
  upkept-limits = moved-limits upkept ∙ market-limits u

  upkept-lines : line_count u₂ ≡ line_count u
  upkept-lines = let x = lines-count u in let y = lines-count u₂ in let z : length (market_of u₂).lines ≡ length (market_of u).lines = ap (λ (m : Market). length m.lines) upkept.market in omega arith

  pub turns-ready : (answers : List ℕ) → 3 * (limits_of u).L ≤ length q → length answers ≡ line_count u → Ready u₂ v 0 × ((3 * (limits_of u₂).L ≤ length q) × (length answers ≡ line_count u₂))
  turns-ready answers h l =
      let x = ap (λ (m : Limits). m.L) upkept-limits in
      let y = upkept-lines in
      (ready-begin (roomy-then r upkept (market-limits u) (upkeep-sound now (market_of u) r.sound.market)), (omega arith, omega arith))

  pub tick-done : (u₃ v₁ q₁ answers : List ℕ) (due : Bool) (t : Turned) → length u₃ ≡ length u → due ≡ some_due (market_of u).lines → TurnsEnd due answers now u₂ v q u₃ v₁ q₁ t
      → Answers (tick answers now (market_of u)) (lent_all u v q) (word done t.n t.m) (lent_all u₃ v₁ q₁)
  unfolding tick Done
  tick-done u₃ v₁ q₁ answers due t l d p =
      let m = upkeep now (market_of u) in
      let s = upkeep-sound now (market_of u) r.sound.market in
      let n : line_count u₂ ≡ length (market_of u).lines = upkept-lines ∙ sym (lines-count u) in
      let f = s.lines.lines_fit in
      go (turns (length (market_of u).lines) 0 (some_due (market_of u).lines) answers now [] (begin m))
      (subst (λ (o : Outcome). Ended o u₂ v q u₃ v₁ q₁ t (begin m)) (λ j. turns (n j) 0 (d j) answers now [] (begin m)) (p (begin m) (sym upkept.market)))
      (turns-safe (market_of u).limits (length (market_of u).lines) 0 (some_due (market_of u).lines) answers now [] (begin m) (begin-sound m s) (omega arith))
      (turns-done (length (market_of u).lines) 0 (some_due (market_of u).lines) answers now [] (begin m))
    where
      go : (o : Outcome) → Ended o u₂ v q u₃ v₁ q₁ t (begin (upkeep now (market_of u))) → Safe (market_of u).limits o → Done o → Answers o (lent_all u v q) (word done t.n t.m) (lent_all u₃ v₁ q₁)
      go (refused n) e s z = absurd e
      go (did x rs k) e s z =
          let g = e.0 in
          let c : t.n ≡ length k.out = (let y = ap length g.out in let w = g.count in omega arith) in
          let c₁ : t.m ≡ length rs = (let w = e.1.count in omega arith) in
          record {
            said = λ j. word (sym z j) (c j) (c₁ j);
            left = record {
              market = g.moved.market;
              sound = moved-sound r.sound (moved_on upkept g.moved) s.0.sound;
              size = l;
              out = g.words ∙ ap (λ (y : List Applied). over (records_words y) v) (sym g.out);
              reports = e.1.words;
            };
          }
