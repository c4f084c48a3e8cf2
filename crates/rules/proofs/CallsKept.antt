-- Each call but the tick keeps the invariant.
use Rattle.std.specs.Prelude.{Option, None, Some}
use mathlib.Core.Path.{◌≡◌, refl, sym, ◌∙◌, ap, subst}
use mathlib.Core.Logic.{◌≢◌}
use mathlib.Core.List.{List, [], ◌∷◌, ◌++◌, map, append_assoc}
use mathlib.Core.Bool.{Bool, true, false, not, ◌&&◌, cond}
use Prim.Native.Nat.{ℕ, zero, suc, ◌+◌, ◌-◌, ◌≤◌, ◌<◌}
use native.Mathlib.Omega.{arith}
use lib.Dec.{leb, ltb, eqb}
use lib.ListN.{length, get_or, length-append, length-map}
use lib.Seq.{get_or-append_seam, get_or-append-add}
use Rattle.rules.specs.declared.Item.{Item}
use Rattle.rules.specs.Lists.{Each, Rising, any, keep, nil}
use Rattle.rules.specs.Quantities.{Key, area_items, max_count, no_key, print_out, same, snapshot_out, within}
use Rattle.rules.specs.Log.{clear, end, keys, stamp}
use Rattle.rules.specs.Prints.{applied_in, apply_print, counted, delivered_in, remove_counts}
use Rattle.rules.specs.Lines.{Connection, Failed, InLine, Line, Market, Pending, Waiting, conn_at, event_keys, events, is_failed, is_in_line, items_of, line_of, nobody, set_conn, set_line, snapshot_of, someone, subscribed, waiting, with_line, with_lines, with_log, with_prints}
use Rattle.rules.specs.Entering.{Work, begin, on_market, push_out, put_out, sweep, take_over, try_line_up}
use Rattle.rules.specs.Calls.{Answer, Outcome, apply, below, better, book_event, claim, did, done, drop_conn, due_ends, due_for, duplicate, full_log, full_numbers, held, hold_print, just, no_row, pending_anew, print, print_counted, promote, refuse, refused, released, reset, snapshot, source, subscribe}
use Rattle.rules.specs.Sound.{Lower}
use Rattle.rules.specs.Demand.{books, is_taken, now_entered, replace}
use Rattle.rules.proofs.Tests.{by_cond, by-maybe, eqb-false, eqb-true, ltb-false, ltb-true, none≢some}
use Rattle.rules.proofs.ListLaws.{append-nil, each_at, each-imp, each_keep, each_map, map-append, rising-kept}
use Rattle.rules.proofs.Order.{same_true}
use Rattle.rules.proofs.Invariant.{Agree, ConnOk, Good, GoodM, GoodW, LineOk, Sorted, Suffix, clear-good, end_is, keys_of, lines-good, set_conn-good, sorted-map}
use Rattle.rules.proofs.Moves.{push_out-good, push_out-grown, put_out-good, replace-other, replace-same}
use Rattle.rules.proofs.Sweep.{all_more, here, sweep-good, take_over-good, try_line_up-good}

pub events-snap : (is : List Item) (t msg : ℕ) → events (is ++ (Item.Snapshot t msg ∷ [])) ≡ events is
events-snap [] t msg = refl
events-snap (Item.Snapshot u m ∷ is) t msg = events-snap is t msg
events-snap (Item.Event k m ∷ is) t msg = ap {B = List (Key × ℕ)} (λ r. (k, m) ∷ r) (events-snap is t msg)

pub events-event : (is : List Item) (k : Key) (msg : ℕ) → events (is ++ (Item.Event k msg ∷ [])) ≡ events is ++ ((k, msg) ∷ [])
events-event [] k msg = refl
events-event (Item.Snapshot u m ∷ is) k msg = events-event is k msg
events-event (Item.Event j m ∷ is) k msg = ap {B = List (Key × ℕ)} (λ r. (j, m) ∷ r) (events-event is k msg)

-- one more event, held and taken
more-held : (is : List Item) (k : Key) (msg : ℕ) (t : List Key) → Suffix (event_keys is) t → Suffix (event_keys (is ++ (Item.Event k msg ∷ []))) (t ++ (k ∷ []))
more-held is k msg t h = (
  h.0,
  ap (λ (o : List Key). o ++ (k ∷ [])) h.1 ∙ append_assoc h.0 (event_keys is) (k ∷ [])
      ∙ ap (λ (o : List Key). h.0 ++ o) (sym (ap (map (λ e. e.0)) (events-event is k msg) ∙ map-append (λ e. e.0) (events is) ((k, msg) ∷ []))),
)

pub none-held : (t : List Key) → Suffix [] t
none-held t = (t, sym (append-nil t))

-- ---- a connection seated
pub subscribed-above : (c limit now x : ℕ) (ls : List Connection) → x < c → Each (λ y. x < y.conn) ls → Each (λ y. x < y.conn) (subscribed c limit now ls)
unfolding subscribed
subscribed-above c limit now x [] h e = (h, tt)
subscribed-above c limit now x (y ∷ ys) h e = by_cond (Each (λ z. x < z.conn)) (ltb c y.conn) (λ q. (h, e))
    (λ q. by_cond (Each (λ z. x < z.conn)) (eqb y.conn c) (λ r. (h, e.1)) (λ r. (e.0, subscribed-above c limit now x ys h e.1)))

pub subscribed-sorted : (c limit now : ℕ) (ls : List Connection) → Sorted ls → Sorted (subscribed c limit now ls)
unfolding subscribed Rising
subscribed-sorted c limit now [] o = (tt, tt)
subscribed-sorted c limit now (y ∷ ys) o = by_cond (Rising Lower) (ltb c y.conn)
    (λ q. ((ltb-true q, each-imp (λ z. y.conn < z.conn) (λ z. c < z.conn) (λ z h. let k : c < y.conn = ltb-true q in omega arith) ys o.0), o))
    (λ q. by_cond (Rising Lower) (eqb y.conn c)
    (λ r. (subst (λ n. Each (λ z. n < z.conn) ys) (eqb-true r) o.0, o.1))
    (λ r. (subscribed-above c limit now y.conn ys (let a : y.conn ≤ c = ltb-false q in let b : y.conn ≢ c = eqb-false r in omega arith) o.0, subscribed-sorted c limit now ys o.1)))

pub subscribed-each : (P : Connection → Type 0) (c limit now : ℕ) (ls : List Connection) → P (waiting c limit now) → Each P ls → Each P (subscribed c limit now ls)
unfolding subscribed
subscribed-each P c limit now [] p e = (p, tt)
subscribed-each P c limit now (y ∷ ys) p e = by_cond (Each P) (ltb c y.conn) (λ q. (p, e))
    (λ q. by_cond (Each P) (eqb y.conn c) (λ r. (p, e.1)) (λ r. (e.0, subscribed-each P c limit now ys p e.1)))

-- who takes over has a claim
pub source-law : (ls : List Connection) (i : ℕ) (x : ℕ × (ℕ × ℕ)) → source i ls ≡ Some x
    → (k : ℕ) × (x.0 ≡ i + k) × (k < length ls) × (claim (get_or ls k nobody).line ≡ Some x.1)
unfolding source
source-law [] i x e = absurd (none≢some e)
source-law (y ∷ ys) i x e = go (claim y.line) refl (source (suc i) ys) (λ z h. source-law ys (suc i) z h) e
  where
    Res : Type 0
    Res = (k : ℕ) × (x.0 ≡ i + k) × (k < suc (length ys)) × (claim (get_or (y ∷ ys) k nobody).line ≡ Some x.1)

    first : (v : ℕ × ℕ) → claim y.line ≡ Some v → ◌≡◌ {A = Option (ℕ × (ℕ × ℕ))} (Some (i, v)) (Some x) → Res
    first v c h = let q : (i, v) ≡ x = cc in (0, (let z : i ≡ x.0 = ap (λ t. t.0) q in omega arith), omega arith, c ∙ ap {B = Option (ℕ × ℕ)} (λ (t : ℕ × (ℕ × ℕ)). Some t.1) q)

    later : (o : Option (ℕ × (ℕ × ℕ))) → ((z : ℕ × (ℕ × ℕ)) → o ≡ Some z → (k : ℕ) × (z.0 ≡ suc i + k) × (k < length ys) × (claim (get_or ys k nobody).line ≡ Some z.1))
        → o ≡ Some x → Res
    later o f h = let r = f x h in (suc r.0, (let z = r.1 in omega arith), (let z = r.2 in omega arith), r.3)

    go : (c : Option (ℕ × ℕ)) → claim y.line ≡ c → (o : Option (ℕ × (ℕ × ℕ)))
        → ((z : ℕ × (ℕ × ℕ)) → o ≡ Some z → (k : ℕ) × (z.0 ≡ suc i + k) × (k < length ys) × (claim (get_or ys k nobody).line ≡ Some z.1))
        → better i c o ≡ Some x → Res
    go None c o f h = later o f h
    go (Some v) c None f h = first v c h
    go (Some v) c (Some u) f h = pick (below v u.1) h
      where
        pick : (b : Bool) → cond b (Some u) (Some (i, v)) ≡ Some x → Res
        pick true h' = later (Some u) f h'
        pick false h' = first v c h'

module _ (s : ℕ) (B : List (ℕ × Key)) (E : ℕ → ℕ) where
  abbrev pub Fine : (Answer → ℕ → List Key) → Outcome → Type 0
  Fine T (refused n) = Unit {0}
  Fine T (did a rs w) = GoodW s B (T a) E w

  pub refuse-fine : (T : Answer → ℕ → List Key) (b : Bool) (n : ℕ) (o : Outcome) → Fine T o → Fine T (refuse b n o)
  refuse-fine T true n o h = tt
  refuse-fine T false n o h = h

  pub begin-good : (T : ℕ → List Key) (m : Market) → GoodM s B T E m → GoodW s B T E (begin m)
  unfolding books now_entered
  begin-good T m g = subst (λ X. Good s X T E m.log.base (keys m.log) m.lines) (sym (append-nil B)) g

  -- what is at the begin of a call
  module _ (T : ℕ → List Key) (m : Market) (g : GoodM s B T E m) where
    ok_at : (i : ℕ) (l : Line) → (conn_at i m).line ≡ l → is_failed l ≡ false → LineOk s (keys_of B) (T (conn_at i m).conn) (E (conn_at i m).conn) l
    ok_at i l e f = subst (LineOk s (keys_of B) (T (conn_at i m).conn) (E (conn_at i m).conn)) e
        (each_at (ConnOk s (keys_of B) T E) m.lines i nobody (here i m l e f) g.conns)

    set-good : (i : ℕ) (line : Line) (hs : List (Key × ℕ)) → i < length m.lines → LineOk s (keys_of B) (T (conn_at i m).conn) (E (conn_at i m).conn) line → GoodM s B T E (set_conn i line hs m)
    set-good i line hs lt ok = set_conn-good T E i line hs lt (λ x ne. refl) (λ x ne. refl) ok g

    take-good : (i : ℕ) (line : Line) (hs : List (Key × ℕ)) (k : Key) → i < length m.lines
        → LineOk s (keys_of B) (T (conn_at i m).conn ++ (k ∷ [])) (E (conn_at i m).conn) line
        → GoodM s B (replace T (conn_at i m).conn (T (conn_at i m).conn ++ (k ∷ []))) E (set_conn i line hs m)
    take-good i line hs k lt ok =
        let c = (conn_at i m).conn in
        set_conn-good (replace T c (T c ++ (k ∷ []))) E i line hs lt (λ x ne. replace-other T c (T c ++ (k ∷ [])) x ne) (λ x ne. refl)
        (subst (λ t. LineOk s (keys_of B) t (E c) line) (sym (replace-same T c (T c ++ (k ∷ [])))) ok) g

    cleared : GoodM s B T E (with_log (clear m.log) m)
    cleared = subst (λ n. Good s B T E (m.log.base + n) [] m.lines) (length-map m.log.entries (λ e. e.0)) (clear-good g)

  -- ---- Subscribe
  pub subscribe-fine : (T : ℕ → List Key) (c limit now : ℕ) (m : Market) → GoodM s B T E m → Fine (λ a. T) (subscribe c limit now m)
  unfolding subscribe
  subscribe-fine T c limit now m g =
      let full = not (any (λ s. eqb s.conn c) m.lines) && leb m.limits.L (length m.lines) in
      let o = just done (with_lines (subscribed c limit now m.lines) (with_prints (remove_counts c m.prints) m)) in
      refuse-fine (λ a. T) (not (within 1 m.limits.H limit)) 18 (refuse full 4 o)
      (refuse-fine (λ a. T) full 4 o
      (begin-good T (with_lines (subscribed c limit now m.lines) (with_prints (remove_counts c m.prints) m))
      (lines-good (subscribed c limit now m.lines) (subscribed-sorted c limit now m.lines g.rises)
      (subscribed-each (ConnOk s (keys_of B) T E) c limit now m.lines (none-held (T c)) g.conns) g)))

  -- ---- Reset
  pub reset-fine : (T : ℕ → List Key) (now : ℕ) (m : Market) → GoodM s B T E m → Fine (λ a. T) (just done (reset now m))
  reset-fine T now m g = begin-good T (reset now m)
      (lines-good (reset now m).lines (sorted-map f (λ x. refl) m.lines g.rises)
      (each_map (ConnOk s (keys_of B) T E) (ConnOk s (keys_of B) T E) f (λ x h. un x x.line) m.lines g.conns) (cleared T m g))
    where
      f : Connection → Connection
      f x = with_line (pending_anew now x.line) x

      un : (x : Connection) (l : Line) → LineOk s (keys_of B) (T x.conn) (E x.conn) (pending_anew now l)
      un x (Waiting is since) = none-held (T x.conn)
      un x (Pending is at since) = none-held (T x.conn)
      un x (InLine n a b) = none-held (T x.conn)
      un x Failed = tt

  -- ---- Snapshot
  released-fine : (T : Answer → ℕ → List Key) (T₁ : ℕ → List Key) (a : Answer) (now : ℕ) (w : Work) → T a ≡ T₁ → T apply ≡ T₁ → GoodW s B T₁ E w → Fine T (released a now w)
  released-fine T T₁ a now w e f g = by_cond (Fine T) (nil w.out)
      (λ q. subst (λ t. GoodW s B t E w) (sym e) g) (λ q. subst (λ t. GoodW s B t E (sweep now w)) (sym f) (sweep-good s B T₁ E now w g))

  pub snapshot-fine : (T : ℕ → List Key) (i t msg now : ℕ) (m : Market) (l : Line) → (conn_at i m).line ≡ l → GoodM s B T E m → Fine (λ a. T) (snapshot i t msg now m l)
  unfolding snapshot books
  snapshot-fine T i t msg now m (Pending is at since) e g = begin-good T m g
  snapshot-fine T i t msg now m Failed e g = begin-good T m g
  snapshot-fine T i t msg now m (InLine n a b) e g = by_cond (Fine (λ x. T)) (due_for t a b)
      (λ q. sweep-good s B T E now (put_out (snapshot_out (conn_at i m).conn msg) (begin (set_line i (due_ends t n a b) (with_log (stamp now m.log) m))))
      (put_out-good s B T E (snapshot_out (conn_at i m).conn msg) (begin (set_line i (due_ends t n a b) (with_log (stamp now m.log) m))) refl
      (begin-good T (set_line i (due_ends t n a b) (with_log (stamp now m.log) m))
      (set-good T m g i (due_ends t n a b) (conn_at i m).held (here i m (InLine n a b) e refl) (less t (ok_at T m g i (InLine n a b) e refl))))))
      (λ q. begin-good T m g)
    where
      less : (t : ℕ) → Agree s (keys_of B) (T (conn_at i m).conn) (E (conn_at i m).conn) n → LineOk s (keys_of B) (T (conn_at i m).conn) (E (conn_at i m).conn) (due_ends t n a b)
      less zero h = h
      less (suc t) h = h
  snapshot-fine T i t msg now m (Waiting is since) e g =
      let is' = is ++ (Item.Snapshot t msg ∷ []) in
      let lt = here i m (Waiting is since) e refl in
      let suf : Suffix (event_keys is') (T (conn_at i m).conn) = rw (events-snap is t msg) (ok_at T m g i (Waiting is since) e refl) in
      let x₁ = did apply [] (take_over i is' now (begin m)) in
      let x₂ = released held now (try_line_up false i now (begin (set_line i (Pending is' (Some now) now) m))) in
      let x₃ = just held (set_line i (Waiting is' since) m) in
      let o = cond (someone m.lines) (cond (any (snapshot_of 0) is' && any (snapshot_of 1) is') x₂ x₃) x₁ in
      refuse-fine (λ a. T) (leb (area_items m.limits) (length is)) 6 (refuse (full_log m) 5 (refuse (full_numbers m) 9 o))
      (refuse-fine (λ a. T) (full_log m) 5 (refuse (full_numbers m) 9 o)
      (refuse-fine (λ a. T) (full_numbers m) 9 o
      (by_cond (Fine (λ a. T)) (someone m.lines)
      (λ q. by_cond (Fine (λ a. T)) (any (snapshot_of 0) is' && any (snapshot_of 1) is')
      (λ r. released-fine (λ a. T) T held now (try_line_up false i now (begin (set_line i (Pending is' (Some now) now) m))) refl refl
      (try_line_up-good s B T E false i now (begin (set_line i (Pending is' (Some now) now) m))
      (begin-good T (set_line i (Pending is' (Some now) now) m) (set-good T m g i (Pending is' (Some now) now) (conn_at i m).held lt suf))))
      (λ r. begin-good T (set_line i (Waiting is' since) m) (set-good T m g i (Waiting is' since) (conn_at i m).held lt suf)))
      (λ q. take_over-good s B T E i is' now (begin m) lt suf (begin-good T m g)))))

  -- ---- Book event
  -- a copy of the event put out under the next number
  copy : (T : ℕ → List Key) (m : Market) → GoodM s B T E m → (t : List Key) (e n : ℕ) (k : Key)
      → m.log.base ≤ n → n < end m.log → get_or (keys m.log) (n - m.log.base) no_key ≡ k
      → Agree s (keys_of B) t e n → Agree s (keys_of B) (t ++ (k ∷ [])) e (suc n)
  copy T m g t e n k lo hi q a = go a.beyond a.out
    where
      K : List Key
      K = keys m.log

      go : (b : List Key) → keys_of B ≡ a.before ++ (a.ks ++ b) → Agree s (keys_of B) (t ++ (k ∷ [])) e (suc n)
      go [] o = absurd (
          let l₁ : length (keys_of B) ≡ length a.before + length a.ks = ap length o ∙ simp (length-append, append-nil) in
          let l₂ : length (keys_of B) ≡ length B = length-map B (λ x. x.1) in
          let l₃ : length K ≡ length m.log.entries = length-map m.log.entries (λ x. x.0) in
          let l₄ = end_is g in let l₅ = a.at in let l₆ = a.upto in omega arith)
      go (y ∷ ys) o =
          let z₁ : get_or (keys_of B) (length (a.before ++ a.ks)) no_key ≡ y =
          ap (λ (l : List Key). get_or l (length (a.before ++ a.ks)) no_key) (o ∙ sym (append_assoc a.before a.ks (y ∷ ys)))
          ∙ get_or-append_seam (a.before ++ a.ks) y ys no_key in
          let z₂ : get_or (keys_of B) (length g.gone + (n - m.log.base)) no_key ≡ k =
          ap (λ (l : List Key). get_or l (length g.gone + (n - m.log.base)) no_key) g.all ∙ get_or-append-add g.gone K (n - m.log.base) no_key ∙ q in
          let z₃ : length (a.before ++ a.ks) ≡ length g.gone + (n - m.log.base) =
          let u = length-append a.before a.ks in let l₅ = a.at in let l₆ = a.upto in let l₇ = g.basis in omega arith in
          let z : y ≡ k = sym z₁ ∙ ap (λ (i : ℕ). get_or (keys_of B) i no_key) z₃ ∙ z₂ in
          record {
            before = a.before;
            ks = a.ks ++ (k ∷ []);
            beyond = ys;
            earlier = a.earlier;
            out = o ∙ ap (λ (x : Key). a.before ++ (a.ks ++ (x ∷ ys))) z ∙ simp append_assoc;
            taken = ap (λ (l : List Key). l ++ (k ∷ [])) a.taken ∙ simp append_assoc;
            at = a.at;
            upto = let u = length-append a.ks (k ∷ []) in let l₆ = a.upto in omega arith;
          }

  -- the newest event
  newest : (t : List Key) (e n : ℕ) (k : Key) (O : List Key) → s + length O ≡ n → Agree s O t e n → Agree s (O ++ (k ∷ [])) (t ++ (k ∷ [])) e (suc n)
  newest t e n k O h a = go a.beyond a.out
    where
      go : (b : List Key) → O ≡ a.before ++ (a.ks ++ b) → Agree s (O ++ (k ∷ [])) (t ++ (k ∷ [])) e (suc n)
      go (y ∷ ys) o = absurd (
          let l₁ : length O ≡ length a.before + (length a.ks + suc (length ys)) = ap length o ∙ simp length-append in
          let l₅ = a.at in let l₆ = a.upto in omega arith)
      go [] o = record {
        before = a.before;
        ks = a.ks ++ (k ∷ []);
        beyond = [];
        earlier = a.earlier;
        out = ap (λ (l : List Key). l ++ (k ∷ [])) o ∙ simp (append_assoc, append-nil);
        taken = ap (λ (l : List Key). l ++ (k ∷ [])) a.taken ∙ simp append_assoc;
        at = a.at;
        upto = let u = length-append a.ks (k ∷ []) in let l₆ = a.upto in omega arith;
      }

  abbrev pub taking : (ℕ → List Key) → ℕ → Key → Answer → ℕ → List Key
  taking T c k a = cond (is_taken a) (replace T c (T c ++ (k ∷ []))) T

  -- in line at the end: pushed, put out, next + 1
  pushed : (T : ℕ → List Key) (i : ℕ) (k : Key) (msg now : ℕ) (m : Market) (n : ℕ) (a b : Bool) → (conn_at i m).line ≡ InLine n a b → GoodM s B T E m → end m.log ≤ n
      → GoodW s B (replace T (conn_at i m).conn (T (conn_at i m).conn ++ (k ∷ []))) E (on_market (set_line i (InLine (suc n) a b)) (push_out (conn_at i m).conn now k msg (begin m)))
  unfolding push_out books now_entered
  pushed T i k msg now m n a b e g hi =
      let c = (conn_at i m).conn in
      let w₀ = begin m in
      let w = push_out c now k msg w₀ in
      let lt = here i m (InLine n a b) e refl in
      let ag = ok_at T m g i (InLine n a b) e refl in
      let g₀ = begin-good T m g in
      let g' = push_out-good s B T E c now k msg w₀ g₀ in
      let O : List Key = keys_of B in
      let mo : keys_of (B ++ books w.out) ≡ O ++ (k ∷ []) = all_more s B T E w₀ w (k ∷ []) (push_out-grown c now k msg w₀) ∙ ap (λ (l : List (ℕ × Key)). keys_of l ++ (k ∷ [])) (append-nil B) in
      let le : s + length O ≡ n =
      let l₂ : length (keys_of B) ≡ length B = length-map B (λ x. x.1) in
      let l₃ : length (keys m.log) ≡ length m.log.entries = length-map m.log.entries (λ x. x.0) in
      let l₄ = end_is g in
      let l₇ : length O ≡ length ag.before + (length ag.ks + length ag.beyond) = ap length ag.out ∙ simp length-append in
      let l₅ = ag.at in let l₆ = ag.upto in omega arith in
      set_conn-good (replace T c (T c ++ (k ∷ []))) E i (InLine (suc n) a b) (conn_at i m).held lt (λ x ne. replace-other T c (T c ++ (k ∷ [])) x ne) (λ x ne. refl)
      (subst (λ t. Agree s (keys_of (B ++ books w.out)) t (E c) (suc n)) (sym (replace-same T c (T c ++ (k ∷ []))))
      (subst (λ O'. Agree s O' (T c ++ (k ∷ [])) (E c) (suc n)) (sym mo) (newest (T c) (E c) n k O le ag))) g'

  pub book-fine : (T : ℕ → List Key) (i : ℕ) (k : Key) (msg now : ℕ) (m : Market) (l : Line) → (conn_at i m).line ≡ l → GoodM s B T E m
      → Fine (taking T (conn_at i m).conn k) (book_event i k msg now m l)
  unfolding book_event
  book-fine T i k msg now m Failed e g = begin-good T m g
  book-fine T i k msg now m (Waiting is since) e g =
      let F = taking T (conn_at i m).conn k in
      let lt = here i m (Waiting is since) e refl in
      let is' = is ++ (Item.Event k msg ∷ []) in
      let o = just held (set_line i (Waiting is' since) m) in
      by_cond (Fine F) (leb (conn_at i m).limit (length is))
      (λ q. begin-good T (set_line i Failed m) (set-good T m g i Failed (conn_at i m).held lt tt))
      (λ q. refuse-fine F (full_log m) 5 (refuse (full_numbers m) 9 o) (refuse-fine F (full_numbers m) 9 o
      (begin-good (replace T (conn_at i m).conn (T (conn_at i m).conn ++ (k ∷ []))) (set_line i (Waiting is' since) m)
      (take-good T m g i (Waiting is' since) (conn_at i m).held k lt (more-held is k msg (T (conn_at i m).conn) (ok_at T m g i (Waiting is since) e refl))))))
  book-fine T i k msg now m (Pending is at since) e g =
      let F = taking T (conn_at i m).conn k in
      let T₁ = replace T (conn_at i m).conn (T (conn_at i m).conn ++ (k ∷ [])) in
      let lt = here i m (Pending is at since) e refl in
      let is' = is ++ (Item.Event k msg ∷ []) in
      let w = try_line_up false i now (begin (set_line i (Pending is' at since) m)) in
      let a = cond (is_in_line (conn_at i w.market).line) duplicate held in
      let o = released a now w in
      by_cond (Fine F) (leb (conn_at i m).limit (length is))
      (λ q. begin-good T (set_line i Failed m) (set-good T m g i Failed (conn_at i m).held lt tt))
      (λ q. refuse-fine F (full_log m) 5 (refuse (full_numbers m) 9 o) (refuse-fine F (full_numbers m) 9 o
      (released-fine F T₁ a now w (by_cond (λ x. F x ≡ T₁) (is_in_line (conn_at i w.market).line) (λ r. refl) (λ r. refl)) refl
      (try_line_up-good s B T₁ E false i now (begin (set_line i (Pending is' at since) m))
      (begin-good T₁ (set_line i (Pending is' at since) m)
      (take-good T m g i (Pending is' at since) (conn_at i m).held k lt (more-held is k msg (T (conn_at i m).conn) (ok_at T m g i (Pending is at since) e refl))))))))
  book-fine T i k msg now m (InLine n a b) e g =
      let c = (conn_at i m).conn in
      let F = taking T c k in
      let T₁ = replace T c (T c ++ (k ∷ [])) in
      let lt = here i m (InLine n a b) e refl in
      let ag = ok_at T m g i (InLine n a b) e refl in
      let w = push_out c now k msg (begin m) in
      let o = did apply [] (sweep now (on_market (set_line i (InLine (suc n) a b)) w)) in
      by_cond (Fine F) (ltb n m.log.base)
      (λ q. begin-good T (set_line i Failed m) (set-good T m g i Failed (conn_at i m).held lt tt))
      (λ q. by_cond (Fine F) (ltb n (end m.log))
      (λ r. by_cond (Fine F) (same (get_or (keys m.log) (n - m.log.base) no_key) k)
      (λ z. begin-good T₁ (set_line i (InLine (suc n) a b) m)
      (take-good T m g i (InLine (suc n) a b) (conn_at i m).held k lt
      (copy T m g (T c) (E c) n k (ltb-false q) (ltb-true r) (same_true (get_or (keys m.log) (n - m.log.base) no_key) k z) ag)))
      (λ z. begin-good T m g))
      (λ r. refuse-fine F (full_log m) 5 (refuse (full_numbers m) 9 o) (refuse-fine F (full_numbers m) 9 o
      (sweep-good s B T₁ E now (on_market (set_line i (InLine (suc n) a b)) w) (pushed T i k msg now m n a b e g (ltb-false r))))))

  -- ---- Print
  hold_print-fine : (T : ℕ → List Key) (i : ℕ) (k : Key) (msg : ℕ) (m : Market) (l : Line) → (conn_at i m).line ≡ l → is_failed l ≡ false → GoodM s B T E m → Fine (λ a. T) (hold_print i k msg m)
  unfolding hold_print
  hold_print-fine T i k msg m l e f g =
      let lt = here i m l e f in
      by_cond (Fine (λ a. T)) (any (λ h. same h.0 k) (conn_at i m).held) (λ q. begin-good T m g)
      (λ q. by_cond (Fine (λ a. T)) (leb (conn_at i m).limit (length (conn_at i m).held))
      (λ r. begin-good T (set_conn i Failed [] m) (set-good T m g i Failed [] lt tt))
      (λ r. begin-good T (set_conn i (conn_at i m).line ((conn_at i m).held ++ ((k, msg) ∷ [])) m)
      (set-good T m g i (conn_at i m).line ((conn_at i m).held ++ ((k, msg) ∷ [])) lt (each_at (ConnOk s (keys_of B) T E) m.lines i nobody lt g.conns))))

  print_counted-fine : (T : ℕ → List Key) (i c : ℕ) (k : Key) (msg d a : ℕ) (m : Market) (l : Line) → (conn_at i m).line ≡ l → GoodM s B T E m → Fine (λ a. T) (print_counted i c k msg d a m l)
  unfolding print_counted books
  print_counted-fine T i c k msg d a m Failed e g = begin-good T m g
  print_counted-fine T i c k msg d a m (InLine n x y) e g = by_cond (Fine (λ a. T)) (leb d a) (λ q. begin-good T m g)
      (λ q. let m₁ = with_prints (apply_print k d m.prints) m in
      put_out-good s B T E (print_out c k msg (d - a)) (begin m₁) refl (begin-good T m₁ g))
  print_counted-fine T i c k msg d a m (Waiting is since) e g = by_cond (Fine (λ a. T)) (leb d a) (λ q. begin-good T m g) (λ q. hold_print-fine T i k msg m (Waiting is since) e refl g)
  print_counted-fine T i c k msg d a m (Pending is at since) e g = by_cond (Fine (λ a. T)) (leb d a) (λ q. begin-good T m g) (λ q. hold_print-fine T i k msg m (Pending is at since) e refl g)

  pub print-fine : (T : ℕ → List Key) (c : ℕ) (k : Key) (msg now : ℕ) (m : Market) → GoodM s B T E m → Fine (λ a. T) (print c k msg now m)
  unfolding print
  print-fine T c k msg now m g =
      let p = m.prints in
      let i = line_of c m in
      let t₇ = no_row k c m.limits p in
      let t₈ = leb max_count (delivered_in k c p.count_rows) in
      let d = suc (delivered_in k c p.count_rows) in
      let a = applied_in k p.key_rows in
      let m₁ = with_prints (counted k c now p) m in
      let o = print_counted i c k msg d a m₁ (conn_at i m).line in
      by_cond (Fine (λ a. T)) (is_failed (conn_at i m).line) (λ q. begin-good T m g)
      (λ q. refuse-fine (λ a. T) t₇ 7 (refuse t₈ 8 o) (refuse-fine (λ a. T) t₈ 8 o (print_counted-fine T i c k msg d a m₁ (conn_at i m).line refl g)))

  -- ---- Promote, Drop
  claim-suffix : (O t : List Key) (e : ℕ) (l : Line) (x : ℕ × ℕ) → claim l ≡ Some x → LineOk s O t e l → Suffix (event_keys (items_of l)) t
  claim-suffix O t e (Waiting is since) x h ok = ok
  claim-suffix O t e (Pending is at since) x h ok = ok
  claim-suffix O t e (InLine n a b) x h ok = absurd (none≢some h)
  claim-suffix O t e Failed x h ok = absurd (none≢some h)

  pub promote-fine : (T : ℕ → List Key) (now : ℕ) (m : Market) → GoodM s B T E m → Fine (λ a. T) (promote now m)
  unfolding promote
  promote-fine T now m g =
      let m' = with_log (clear m.log) m in
      let g' = cleared T m g in
      by_cond (Fine (λ a. T)) (someone m.lines) (λ q. begin-good T m g)
      (λ q. by-maybe (Fine (λ a. T)) (source 0 m.lines) (begin-good T m' g')
      (λ x h. let r = source-law m.lines 0 x h in
      let e : x.0 ≡ r.0 = let z = r.1 in omega arith in
      let lt : x.0 < length m.lines = let z = r.2 in omega arith in
      let cl : claim (conn_at x.0 m).line ≡ Some x.1 = subst (λ j. claim (get_or m.lines j nobody).line ≡ Some x.1) (sym e) r.3 in
      sweep-good s B T E now (take_over x.0 (items_of (conn_at x.0 m).line) now (begin m'))
      (take_over-good s B T E x.0 (items_of (conn_at x.0 m).line) now (begin m') lt
      (claim-suffix (keys_of B) (T (conn_at x.0 m).conn) (E (conn_at x.0 m).conn) (conn_at x.0 m).line x.1 cl
      (each_at (ConnOk s (keys_of B) T E) m.lines x.0 nobody lt g.conns))
      (begin-good T m' g'))))

  pub drop-fine : (T : ℕ → List Key) (c now : ℕ) (m : Market) → GoodM s B T E m → Fine (λ a. T) (drop_conn c now m)
  unfolding drop_conn
  drop-fine T c now m g =
      let t : Connection → Bool = λ s. not (eqb s.conn c) in
      let m' = with_lines (keep (λ s. not (eqb s.conn c)) m.lines) m in
      let g' : GoodM s B T E m' = lines-good (keep t m.lines) (rising-kept Lower t m.lines g.rises) (each_keep (ConnOk s (keys_of B) T E) t m.lines g.conns) g in
      by_cond (Fine (λ a. T)) (is_in_line (conn_at (line_of c m) m).line) (λ q. promote-fine T now m' g') (λ q. begin-good T m' g')
