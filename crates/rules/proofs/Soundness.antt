-- The tick leaves a sound market sound; so every call does, and its records and reports fit.
use Rattle.std.specs.Prelude.{Option, None}
use mathlib.Core.Path.{◌≡◌, refl, ◌∙◌, ap}
use mathlib.Core.List.{List, [], ◌∷◌, ◌++◌, map}
use mathlib.Core.Bool.{Bool, true, false, not, ◌&&◌, ◌||◌}
use Prim.Native.Nat.{ℕ, zero, suc, ◌+◌, ◌≤◌}
use native.Mathlib.Omega.{arith}
use lib.Dec.{leb, ltb, eqb}
use lib.ListN.{length, get_or, drop, set, length-append, length-drop, length-map, get_or-map}
use Rattle.rules.specs.declared.Expired.{Expired}
use Rattle.rules.specs.declared.Item.{Item}
use Rattle.rules.specs.declared.Limits.{Limits}
use Rattle.rules.specs.Lists.{Rising, is_some, nil}
use Rattle.rules.specs.Quantities.{age, align_timeout, in_range, words_needed}
use Rattle.rules.specs.Log.{end, old}
use Rattle.rules.specs.Lines.{Connection, Failed, InLine, Line, Market, Pending, Waiting, conn_at, events, fresh, is_failed, items_of, line_of, nobody, some_due, someone, with_held, with_line}
use Rattle.rules.specs.Entering.{Work, aligns, begin, on_market, sweep, take_over, try_line_up}
use Rattle.rules.specs.Calls.{Outcome, book_event, did, done, drop_conn, just, print, promote, refuse, refused, reset, snapshot}
use Rattle.rules.specs.Tick.{Turn, all_out, fails, on, out_of_line, quiet_line_up, quietly, rebuild_from, report_aligned, stop, tick, time_out, turn, turns, upkeep}
use Rattle.rules.specs.Refusals.{BookEvent, Call, Drop, Print, Promote, Reset, Snapshot, Subscribe, Tick, bad_answers, setup, short, step}
use Rattle.rules.specs.Sound.{holdings, holds, Leaves, SetupSound, Sound, SoundnessKept}
use Rattle.rules.proofs.Tests.{by_cond, by-stamped, ltb-false}
use Rattle.rules.proofs.LogLaws.{old-le}
use Rattle.rules.proofs.PrintsSound.{expire_prints-sound}
use Rattle.rules.proofs.Sweep.{here}
use Rattle.rules.proofs.SoundMoves.{Bound, SoundW, enter-sound, events-le, grow-conns, pushed_none, sum-set, sweep_sound, take_over-sound, try_line_up-sound}
use Rattle.rules.proofs.SoundCalls.{Safe, begin-sound, book-safe, drop-safe, just-safe, out-sound, print-safe, promote-safe, refuse-safe, reset-sound, room_for, shrink, snapshot-safe, subscribe-safe}

abbrev pub SafeTurn : Bound → Turn → Type 0
SafeTurn Z (on rs w) = SoundW Z w × (length rs ≤ 1)
SafeTurn Z (stop rs w) = SoundW Z w × (length rs ≤ 1)

pub upkeep-sound : (now : ℕ) (m : Market) → Sound m → Sound (upkeep now m)
upkeep-sound now m s =
    let n = old now m.log.entries in
    let a = old-le now m.log.entries in
    let b = length-drop n m.log.entries in
    let x = s.lines.log_fits in
    let y = s.lines.numbers_fit in
    record {
      limits_fit = s.limits_fit;
      lines = record {
        lines_fit = s.lines.lines_fit;
        rises = s.lines.rises;
        conns = grow-conns m.limits (end m.log) (m.log.base + n + length (drop n m.log.entries)) m.lines (omega arith) s.lines.conns;
        log_fits = omega arith;
        numbers_fit = omega arith;
      };
      prints = expire_prints-sound m.limits now m.prints s.prints;
    }

fails-safe : (Z : Bound) (i : ℕ) (w : Work) (l : Line) → (conn_at i w.market).line ≡ l → is_failed l ≡ false → SoundW Z w → SafeTurn Z (fails i w)
fails-safe Z i w l e f s =
    let m = w.market in
    let lt = here i m l e f in
    let v : Connection = with_line Failed (with_held [] (conn_at i m)) in
    let p : holdings (set m.lines i v) + holds (conn_at i m) ≡ holdings m.lines + 0 = sum-set holds m.lines i v lt in
    let sp = s.spent in
    (record { sound = shrink m i Failed [] s.sound lt tt (omega arith) (omega arith); limits = s.limits; spent = omega arith }, omega arith)

pub map-holdings : (f : Connection → Connection) → ((x : Connection) → holds (f x) ≤ holds x) → (ls : List Connection) → holdings (map f ls) ≤ holdings ls
map-holdings f h [] = omega arith
map-holdings f h (x ∷ xs) = let a = h x in let b = map-holdings f h xs in omega arith

rebuild-safe : (Z : Bound) (i : ℕ) (is : List Item) (at : Option ℕ) (since now : ℕ) (w : Work) → (conn_at i w.market).line ≡ Pending is at since → SoundW Z w → SafeTurn Z (rebuild_from i is now w)
unfolding rebuild_from
rebuild-safe Z i is at since now w e s =
    let m = w.market in
    let w₁ = on_market (all_out now) w in
    let lt = here i m (Pending is at since) e refl in
    let q : get_or (map F m.lines) i nobody ≡ F (conn_at i m) = get_or-map F m.lines i nobody in
    let it : length (items_of (conn_at i w₁.market).line) ≡ length is = ap (λ (x : Connection). length (items_of x.line)) q ∙ ap (λ (x : Line). length (items_of (out_of_line now x))) e in
    let lm = length-map m.lines F in
    let mp : holdings (map F m.lines) ≤ holdings m.lines = map-holdings F (λ x. less x.line (length x.held)) m.lines in
    let sp = s.spent in
    let ev = events-le is in
    (sweep_sound Z now (take_over i is now w₁) (take_over-sound Z i is now w₁ (omega arith) (omega arith) (omega arith) s.limits (out-sound now m s.sound)), omega arith)
  where
    F : Connection → Connection
    F x = with_line (out_of_line now x.line) x

    less : (l : Line) (h : ℕ) → length (items_of (out_of_line now l)) + h ≤ length (items_of l) + h
    less (Waiting is since) h = omega arith
    less (Pending is at since) h = omega arith
    less (InLine n a b) h = omega arith
    less Failed h = omega arith

quiet_line_up-safe : (Z : Bound) (i now : ℕ) (is : List Item) (at : Option ℕ) (since : ℕ) (w : Work) → (conn_at i w.market).line ≡ Pending is at since → SoundW Z w → SoundW Z (quiet_line_up i now is w)
unfolding quiet_line_up
quiet_line_up-safe Z i now is at since w e s = by_cond (SoundW Z) (nil (events is))
    (λ q. let sp = s.spent in enter-sound Z w w 0 0 i (end w.market.log) (end w.market.log) false false s.limits s.sound (pushed_none w) (here i w.market (Pending is at since) e refl) (omega arith) (omega arith) (omega arith))
    (λ q. try_line_up-sound Z true i now w s)

put_one : (i : ℕ) (w w' : Work) → length (report_aligned i w w') ≤ 1
put_one i w w' = by_cond (λ (r : List Expired). length r ≤ 1) (ltb (length w.out) (length w'.out)) (λ e. omega arith) (λ e. omega arith)

pending-safe : (Z : Bound) (i : ℕ) (is : List Item) (at : Option ℕ) (since now : ℕ) (w : Work) → (conn_at i w.market).line ≡ Pending is at since → SoundW Z w → SafeTurn Z (time_out i is at since now w)
unfolding time_out
pending-safe Z i is at since now w e s = by_cond (SafeTurn Z) (leb align_timeout (age now since))
    (λ q. by-stamped (SafeTurn Z) at (fails-safe Z i w (Pending is at since) e refl s) (λ t. rebuild-safe Z i is at since now w e s)) (λ q. (s, omega arith))

waiting-safe : (Z : Bound) (i : ℕ) (is : List Item) (since now : ℕ) (w : Work) → (conn_at i w.market).line ≡ Waiting is since → SoundW Z w → SafeTurn Z (time_out i is None since now w)
unfolding time_out
waiting-safe Z i is since now w e s = by_cond (SafeTurn Z) (leb align_timeout (age now since)) (λ q. fails-safe Z i w (Waiting is since) e refl s) (λ q. (s, omega arith))

pub turn-safe : (Z : Bound) (i : ℕ) (due same_view : Bool) (now : ℕ) (w : Work) (l : Line) → (conn_at i w.market).line ≡ l → SoundW Z w → SafeTurn Z (turn i due same_view now w l)
unfolding turn
turn-safe Z i due same_view now w (InLine n a b) e s = by_cond (SafeTurn Z) (ltb n w.market.log.base) (λ q. fails-safe Z i w (InLine n a b) e refl s) (λ q. (s, omega arith))
turn-safe Z i due same_view now w (Waiting is since) e s = waiting-safe Z i is since now w e s
turn-safe Z i due same_view now w Failed e s = (s, omega arith)
turn-safe Z i due same_view now w (Pending is at since) e s =
    let m = w.market in
    let line = Pending is at since in
    by_cond (SafeTurn Z) (someone m.lines && not due)
    (λ q. by_cond (SafeTurn Z) (is_some (aligns false line m))
    (λ r. (sweep_sound Z now (try_line_up false i now w) (try_line_up-sound Z false i now w s), put_one i w (sweep now (try_line_up false i now w))))
    (λ r. by_cond (SafeTurn Z) (quietly is at since same_view now m)
    (λ z. (quiet_line_up-safe Z i now is at since w e s, put_one i w (quiet_line_up i now is w)))
    (λ z. pending-safe Z i is at since now w e s)))
    (λ q. pending-safe Z i is at since now w e s)

pub turns-safe : (l : Limits) (n i : ℕ) (due : Bool) (answers : List ℕ) (now : ℕ) (rs : List Expired) (w : Work) → SoundW (room_for l) w → length rs + n ≤ l.L → Safe l (turns n i due answers now rs w)
unfolding turns
turns-safe l zero i due answers now rs w s h = (s, omega arith)
turns-safe l (suc n) i due answers now rs w s h =
    go (turn i due (eqb (get_or answers i 0) 1) now w (conn_at i w.market).line) (turn-safe (room_for l) i due (eqb (get_or answers i 0) 1) now w (conn_at i w.market).line refl s)
    (λ r w' s' h'. turns-safe l n (suc i) due answers now (rs ++ r) w' s' h')
  where
    go : (t : Turn) → SafeTurn (room_for l) t → ((r : List Expired) (w' : Work) → SoundW (room_for l) w' → length (rs ++ r) + n ≤ l.L → Safe l (turns n (suc i) due answers now (rs ++ r) w'))
        → Safe l (elim t [ on r w' ↦ turns n (suc i) due answers now (rs ++ r) w' | stop r w' ↦ did done (rs ++ r) w' ])
    go (on r w') t f = f r w' t.0 (let z = length-append rs r in let y = t.1 in omega arith)
    go (stop r w') t f = (t.0, (let z = length-append rs r in let y = t.1 in omega arith))

-- a sound market stays sound; its records fit the room asked for, its reports L
pub step-safe : (x : Call) (m : Market) → Sound m → Safe m.limits (step x m)
unfolding step tick
step-safe (Subscribe c limit now) m s = subscribe-safe c limit now m s
step-safe (Snapshot c t msg now room) m s =
    let o = snapshot (line_of c m) t msg now m (conn_at (line_of c m) m).line in
    refuse-safe m.limits (ltb 1 t) 10 (refuse (short room m) 3 o)
    (λ q. refuse-safe m.limits (short room m) 3 o (λ r. snapshot-safe (line_of c m) t msg now m (conn_at (line_of c m) m).line (ltb-false q) refl s))
step-safe (BookEvent c k msg now room) m s = refuse-safe m.limits (short room m) 3 (book_event (line_of c m) k msg now m (conn_at (line_of c m) m).line)
    (λ q. book-safe (line_of c m) k msg now m (conn_at (line_of c m) m).line refl s)
step-safe (Print c k msg now room) m s = refuse-safe m.limits (short room m) 3 (print c k msg now m) (λ q. print-safe c k msg now m s)
step-safe (Drop c now room) m s = refuse-safe m.limits (short room m) 3 (drop_conn c now m) (λ q. drop-safe c now m s)
step-safe (Promote now room) m s = refuse-safe m.limits (short room m) 3 (promote now m) (λ q. promote-safe now m s)
step-safe (Reset now) m s = just-safe (reset now m) done (reset-sound now m s)
step-safe (Tick answers now room reports) m s =
    let t₁₁ = bad_answers answers m in
    let t₃ = short room m || ltb reports m.limits.L in
    refuse-safe m.limits t₁₁ 11 (refuse t₃ 3 (tick answers now m)) (λ q. refuse-safe m.limits t₃ 3 (tick answers now m) (λ r.
    turns-safe m.limits (length m.lines) 0 (some_due m.lines) answers now [] (begin (upkeep now m)) (begin-sound (upkeep now m) (upkeep-sound now m s))
    (let z = s.lines.lines_fit in omega arith)))

-- what is safe leaves what 01's bounds ask
leaves_of : (l : Limits) (o : Outcome) → Safe l o → Leaves l o
leaves_of l (refused n) s = tt
leaves_of l (did a rs w) s = let z = s.0.spent in (s.0.sound, s.0.limits, omega arith, s.1)

pub soundness-kept : SoundnessKept
soundness-kept x m s = leaves_of m.limits (step x m) (step-safe x m s)

pub setup-sound : SetupSound
unfolding setup Rising
setup-sound l start words h = go (in_range l) refl (ltb words (words_needed l))
  where
    sound : in_range l ≡ true → Sound (fresh l start)
    sound e = record {
      limits_fit = e;
      lines = record { lines_fit = omega arith; rises = tt; conns = tt; log_fits = omega arith; numbers_fit = omega arith };
      prints = record { keys_fit = omega arith; pairs_fit = omega arith; tables = record { keys_rise = tt; pairs_rise = tt; applied32 = tt; delivered32 = tt; keyed = tt } };
    }

    go : (b : Bool) → in_range l ≡ b → (d : Bool) → Leaves l (refuse (not b) 2 (refuse d 1 (just done (fresh l start))))
    go true e true = tt
    go true e false = (sound e, refl, omega arith, omega arith)
    go false e d = tt
