-- The tick keeps the invariant.
use Rattle.std.specs.Prelude.{Option, None}
use mathlib.Core.Path.{◌≡◌, refl, sym, ap, subst}
use mathlib.Core.List.{List, [], ◌++◌, map}
use mathlib.Core.Bool.{Bool, true, false, not, ◌&&◌}
use Prim.Native.Nat.{ℕ, zero, suc, ◌+◌, ◌<◌}
use native.Mathlib.Omega.{arith}
use lib.Dec.{leb, ltb, eqb}
use lib.ListN.{length, get_or, length-map, get_or-map}
use Rattle.rules.specs.declared.Expired.{Expired}
use Rattle.rules.specs.declared.Item.{Item}
use Rattle.rules.specs.Lists.{is_some, nil}
use Rattle.rules.specs.Quantities.{Key, age, align_timeout}
use Rattle.rules.specs.Log.{clear, end, keys, old}
use Rattle.rules.specs.Lines.{Connection, Failed, InLine, Line, Market, Pending, Waiting, conn_at, event_keys, events, is_failed, nobody, some_due, someone, with_line, with_log}
use Rattle.rules.specs.Entering.{Work, aligns, begin, on_market, take_over, try_line_up}
use Rattle.rules.specs.Calls.{did, done}
use Rattle.rules.specs.Tick.{Turn, all_out, fails, on, out_of_line, quiet_line_up, quietly, rebuild_from, stop, tick, time_out, turn, turns, upkeep}
use Rattle.rules.specs.Demand.{books, now_entered}
use Rattle.rules.proofs.Tests.{by_cond, by-stamped}
use Rattle.rules.proofs.ListLaws.{append-nil, each_map, map-drop}
use Rattle.rules.proofs.LogLaws.{old-le}
use Rattle.rules.proofs.Invariant.{ConnOk, Good, GoodM, GoodW, LineOk, Suffix, clear-good, cut-good, keys_of, lines-good, set_conn-good, sorted-map}
use Rattle.rules.proofs.Moves.{enter-good}
use Rattle.rules.proofs.Sweep.{end_of, here, line_ok, sweep-good, take_over-good, try_line_up-good}
use Rattle.rules.proofs.CallsKept.{Fine, begin-good, none-held}

module _ (s : ℕ) (B : List (ℕ × Key)) (E : ℕ → ℕ) where
  abbrev FineTurn : (ℕ → List Key) → Turn → Type 0
  FineTurn T (on rs w) = GoodW s B T E w
  FineTurn T (stop rs w) = GoodW s B T E w

  upkeep-good : (T : ℕ → List Key) (now : ℕ) (m : Market) → GoodM s B T E m → GoodM s B T E (upkeep now m)
  upkeep-good T now m g =
      let n = old now m.log.entries in
      subst (λ ks. Good s B T E (m.log.base + n) ks m.lines) (sym (map-drop (λ e. e.0) n m.log.entries))
      (cut-good n (let a = old-le now m.log.entries in let b : length (keys m.log) ≡ length m.log.entries = length-map m.log.entries (λ e. e.0) in omega arith) g)

  fails-fine : (T : ℕ → List Key) (i : ℕ) (w : Work) (l : Line) → (conn_at i w.market).line ≡ l → is_failed l ≡ false → GoodW s B T E w → FineTurn T (fails i w)
  fails-fine T i w l e f g = set_conn-good T (now_entered w.entered E) i Failed [] (here i w.market l e f) (λ x ne. refl) (λ x ne. refl) tt g

  cleared_w : (T : ℕ → List Key) (w : Work) → GoodW s B T E w → GoodW s B T E (on_market (λ m. with_log (clear m.log) m) w)
  cleared_w T w g = subst (λ n. Good s (B ++ books w.out) T (now_entered w.entered E) (w.market.log.base + n) [] w.market.lines)
      (length-map w.market.log.entries (λ e. e.0)) (clear-good g)

  rebuild-fine : (T : ℕ → List Key) (i : ℕ) (is : List Item) (at : Option ℕ) (since now : ℕ) (w : Work) → (conn_at i w.market).line ≡ Pending is at since → GoodW s B T E w
      → FineTurn T (rebuild_from i is now w)
  unfolding rebuild_from
  rebuild-fine T i is at since now w e g =
      let w₁ = on_market (all_out now) w in
      let lt = here i w.market (Pending is at since) e refl in
      let E₀ = now_entered w.entered E in
      let B₀ = B ++ books w.out in
      let g₁ : GoodW s B T E w₁ = lines-good (map f w.market.lines) (sorted-map f (λ x. refl) w.market.lines g.rises)
      (each_map (ConnOk s (keys_of B₀) T E₀) (ConnOk s (keys_of B₀) T E₀) f (λ x h. un x x.line h) w.market.lines g.conns) (cleared_w T w g) in
      let q : get_or (map f w.market.lines) i nobody ≡ f (conn_at i w.market) = get_or-map f w.market.lines i nobody in
      let lt₁ : i < length (map f w.market.lines) = let z = length-map w.market.lines f in omega arith in
      let suf : Suffix (event_keys is) (T (conn_at i w₁.market).conn) =
      subst (λ c. Suffix (event_keys is) (T c)) (sym (ap (λ (x : Connection). x.conn) q)) (line_ok s B T E i w (Pending is at since) e refl g) in
      sweep-good s B T E now (take_over i is now w₁) (take_over-good s B T E i is now w₁ lt₁ suf g₁)
    where
      f : Connection → Connection
      f x = with_line (out_of_line now x.line) x

      un : (x : Connection) (l : Line) → LineOk s (keys_of (B ++ books w.out)) (T x.conn) (now_entered w.entered E x.conn) l
          → LineOk s (keys_of (B ++ books w.out)) (T x.conn) (now_entered w.entered E x.conn) (out_of_line now l)
      un x (Waiting is since) h = h
      un x (Pending is at since) h = h
      un x (InLine n a b) h = none-held (T x.conn)
      un x Failed h = tt

  waiting-fine : (T : ℕ → List Key) (i : ℕ) (is : List Item) (since now : ℕ) (w : Work) → (conn_at i w.market).line ≡ Waiting is since → GoodW s B T E w → FineTurn T (time_out i is None since now w)
  unfolding time_out
  waiting-fine T i is since now w e g = by_cond (FineTurn T) (leb align_timeout (age now since)) (λ q. fails-fine T i w (Waiting is since) e refl g) (λ q. g)

  pending-fine : (T : ℕ → List Key) (i : ℕ) (is : List Item) (at : Option ℕ) (since now : ℕ) (w : Work) → (conn_at i w.market).line ≡ Pending is at since → GoodW s B T E w → FineTurn T (time_out i is at since now w)
  unfolding time_out
  pending-fine T i is at since now w e g = by_cond (FineTurn T) (leb align_timeout (age now since))
      (λ q. by-stamped (FineTurn T) at (fails-fine T i w (Pending is at since) e refl g) (λ t. rebuild-fine T i is at since now w e g)) (λ q. g)

  quiet_line_up-fine : (T : ℕ → List Key) (i now : ℕ) (is : List Item) (at : Option ℕ) (since : ℕ) (w : Work) → (conn_at i w.market).line ≡ Pending is at since → GoodW s B T E w → GoodW s B T E (quiet_line_up i now is w)
  unfolding quiet_line_up
  quiet_line_up-fine T i now is at since w e g = by_cond (GoodW s B T E) (nil (events is))
      (λ q. enter-good s B T E i (end w.market.log) (end w.market.log) false false w (here i w.market (Pending is at since) e refl)
      (record {
        before = keys_of (B ++ books w.out);
        ks = [];
        beyond = [];
        earlier = T (conn_at i w.market).conn;
        out = sym (append-nil (keys_of (B ++ books w.out)));
        taken = sym (append-nil (T (conn_at i w.market).conn));
        at = end_of s B T E w g;
        upto = omega arith;
      }) g)
      (λ q. try_line_up-good s B T E true i now w g)

  turn-fine : (T : ℕ → List Key) (i : ℕ) (due same_view : Bool) (now : ℕ) (w : Work) (l : Line) → (conn_at i w.market).line ≡ l → GoodW s B T E w → FineTurn T (turn i due same_view now w l)
  unfolding turn
  turn-fine T i due same_view now w (InLine n a b) e g = by_cond (FineTurn T) (ltb n w.market.log.base) (λ q. fails-fine T i w (InLine n a b) e refl g) (λ q. g)
  turn-fine T i due same_view now w (Waiting is since) e g = waiting-fine T i is since now w e g
  turn-fine T i due same_view now w Failed e g = g
  turn-fine T i due same_view now w (Pending is at since) e g =
      let m = w.market in
      let line = Pending is at since in
      by_cond (FineTurn T) (someone m.lines && not due)
      (λ q. by_cond (FineTurn T) (is_some (aligns false line m))
      (λ r. sweep-good s B T E now (try_line_up false i now w) (try_line_up-good s B T E false i now w g))
      (λ r. by_cond (FineTurn T) (quietly is at since same_view now m)
      (λ z. quiet_line_up-fine T i now is at since w e g)
      (λ z. pending-fine T i is at since now w e g)))
      (λ q. pending-fine T i is at since now w e g)

  turns-fine : (T : ℕ → List Key) (n i : ℕ) (due : Bool) (answers : List ℕ) (now : ℕ) (rs : List Expired) (w : Work) → GoodW s B T E w → Fine s B E (λ a. T) (turns n i due answers now rs w)
  unfolding turns
  turns-fine T zero i due answers now rs w g = g
  turns-fine T (suc n) i due answers now rs w g =
      go (turn i due (eqb (get_or answers i 0) 1) now w (conn_at i w.market).line)
      (turn-fine T i due (eqb (get_or answers i 0) 1) now w (conn_at i w.market).line refl g)
      (λ r w' h. turns-fine T n (suc i) due answers now (rs ++ r) w' h)
    where
      go : (t : Turn) → FineTurn T t → ((r : List Expired) (w' : Work) → GoodW s B T E w' → Fine s B E (λ a. T) (turns n (suc i) due answers now (rs ++ r) w'))
          → Fine s B E (λ a. T) (elim t [ on r w' ↦ turns n (suc i) due answers now (rs ++ r) w' | stop r w' ↦ did done (rs ++ r) w' ])
      go (on r w') h f = f r w' h
      go (stop r w') h f = h

  pub tick-fine : (T : ℕ → List Key) (answers : List ℕ) (now : ℕ) (m : Market) → GoodM s B T E m → Fine s B E (λ a. T) (tick answers now m)
  unfolding tick
  tick-fine T answers now m g = turns-fine T (length m.lines) 0 (some_due m.lines) answers now [] (begin (upkeep now m)) (begin-good s B E T (upkeep now m) (upkeep-good T now m g))
