-- What the turns of a tick leave.
use mathlib.Core.Path.{◌≡◌, refl, sym, ap, ◌∙◌, subst}
use mathlib.Core.List.{List, [], ◌∷◌, ◌++◌, map}
use mathlib.Core.Bool.{Bool, true, false, cond}
use mathlib.Core.Logic.{◌⊎◌, inl, inr}
use Prim.Native.Nat.{ℕ, ◌+◌, ◌-◌, ◌*◌, ◌≤◌, ◌<◌}
use native.Mathlib.Omega.{arith}
use lib.Dec.{ltb}
use lib.ListN.{length, take-append-drop, length-append, length-map, get_or-map}
use Rattle.rules.specs.declared.Expired.{Expired}
use Rattle.rules.specs.declared.Limits.{Limits}
use Rattle.rules.specs.Log.{Log, clear}
use Rattle.rules.specs.Lines.{Connection, Failed, InLine, Line, Market, Pending, Waiting, conn_at, is_failed, is_pending, items_of, nobody, set_conn, set_line, with_line, with_log}
use Rattle.rules.specs.Entering.{Work, begin, on_market, sweep, take_over}
use Rattle.rules.specs.Calls.{each_line}
use Rattle.rules.specs.Tick as Rules
use Rattle.rules.specs.Tick.{Turn, on, all_out, out_of_line, rebuild_from, turn}
use Rattle.rules.specs.Sound.{holdings}
use Rattle.rules.proofs.Tests.{either, ff≢tt, ltb-true, ltb-false, lt-ltb, le-ltb}
use Rattle.rules.proofs.SoundMoves.{Bound, SoundW, events-le, take_over-sound}
use Rattle.rules.proofs.SoundCalls.{out-sound}
use Rattle.rules.proofs.Soundness.{map-holdings}
use Rattle.lines.specs.declared.Line as Value
use Rattle.lines.specs.declared.Aging.{Aging}
use Rattle.lines.specs.declared.Aged.{Aged}
use Rattle.lines.specs.Line.{line_of, Stands, time_step, Ages}
use Rattle.lines.specs.Steps.{after_time, aged}
use Rattle.lines.proofs.Laws.{left, stands-empty}
use Rattle.store.specs.Store.{line_count, market_of, Sized, Sound}
use Rattle.store.specs.Moves.{Moved}
use Rattle.store.specs.ConnMoves.{items_at, Lined, NotFailed}
use Rattle.store.proofs.MarketLaws.{lines-count}
use Rattle.store.proofs.ConnLaws.{line-again}
use Rattle.store.proofs.FrameLaws.{moved_on, moved-is, moved-limits}
use Rattle.output.specs.Output.{report_words, reports_words, over_at}
use Rattle.output.proofs.OverLaws.{reports-append, reports-length, over-twice}
use Rattle.market_tick.specs.declared.Turned.{Turned}
use Rattle.market_tick.specs.declared.Way.{Way}
use Rattle.moves.specs.Does.{Goes, Does, Ready}
use Rattle.market_tick.specs.Turns.{Reported, Taken, Makes, Turns, Pends, AlignedReport, aligned_by, way_of}
use Rattle.market_tick.proofs.TimeLaws.{step, step_is, step_line, pair_is, by_way, turn_is}
use Rattle.moves.proofs.DoesLaws.{does-then, does-none, does-market, ready-then}
use Rattle.moves.proofs.LineUpLaws.{pending-stays}

-- ---- reports

pub reported-none : (q : List ℕ) (m : ℕ) → Reported [] q m q m
unfolding reports_words
reported-none q m = record { words = sym (take-append-drop (3 * m) q); count = omega arith }

one-report : (a : ℕ) (r : Expired) (v : List ℕ) → over_at a (report_words r) v ≡ over_at a (reports_words (r ∷ [])) v
unfolding reports_words
one-report a (Expired.Aligned c n) v = refl
one-report a (Expired.Rebuild c n) v = refl
one-report a (Expired.Failed c) v = refl

reported-one : {q q₁ : List ℕ} {m m₁ : ℕ} (r : Expired) → (m₁ ≡ m + 1) × (q₁ ≡ over_at (3 * m) (report_words r) q) → Reported (r ∷ []) q m q₁ m₁
reported-one {q} {q₁} {m} r p = record { words = p.1 ∙ one-report (3 * m) r q; count = p.0 }

pub reported-then : {q q₁ q₂ : List ℕ} {m m₁ m₂ : ℕ} {rs ss : List Expired} → 3 * m ≤ length q → Reported rs q m q₁ m₁ → Reported ss q₁ m₁ q₂ m₂ → Reported (rs ++ ss) q m q₂ m₂
reported-then {q} {q₁} {q₂} {m} {m₁} {m₂} {rs} {ss} h p r =
    let l = reports-length rs in
    let e : 3 * m₁ ≡ 3 * m + length (reports_words rs) = (let c = p.count in omega arith) in
    record {
      words = r.words ∙ (λ i. over_at (e i) (reports_words ss) (p.words i)) ∙ over-twice (3 * m) (reports_words rs) (reports_words ss) q h ∙ ap (λ (z : List ℕ). over_at (3 * m) z q) (sym (reports-append rs ss));
      count = (let a = p.count in let b = r.count in let c = length-append rs ss in omega arith);
    }

-- ---- records put out since

goes-since : {u v u₁ v₁ : List ℕ} {n n₁ : ℕ} {k k₁ : Work} → Goes u v n u₁ v₁ n₁ k k₁ → n₁ - n ≡ length k₁.out - length k.out
goes-since {k = k} g = let a = ap length g.out in let b = length-append k.out g.more in let c = g.count in omega arith

pub does-more : {u v u₁ v₁ : List ℕ} {n n₁ : ℕ} (f : Work → Work) → Does f u v n u₁ v₁ n₁ → n ≤ n₁
does-more {u} f d = let c = (d (begin (market_of u)) refl).count in omega arith

-- ---- nothing happens

pub turns-stay : {u v q : List ℕ} (t : Turned) → Sized u → Turns (λ k. on [] k) u v q t u v q (record { n = t.n; m = t.m; stopped = false })
turns-stay {u} {v} {q} t z k e = record { goes = does-none z k e; reported = reported-none q t.m; stopped = refl }

-- ---- a line fails

pub fails-done : {u u₁ u₂ q q₁ : List ℕ} (t : Turned) {i conn m : ℕ} {line : Value.Line} → Stands line Failed → i < line_count u
    → conn ≡ (conn_at i (market_of u)).conn → Moved u u₁ (set_conn i (conn_at i (market_of u)).line [] (market_of u))
    → Moved u₁ u₂ (set_line i (line_of line (items_at u₁ i)) (market_of u₁))
    → (m ≡ t.m + 1) × (q₁ ≡ over_at (3 * t.m) (report_words (Expired.Failed conn)) q)
    → (v : List ℕ) → Turns (Rules.fails i) u v q t u₂ v q₁ (record { n = t.n; m = m; stopped = false })
fails-done {u} {u₁} {u₂} {q} {q₁} t {i} {conn} {m} {line} f h c a b r v k e =
    let old = market_of u in
    let l : i < length old.lines = omega (arith, lines-count u) in
    let s : set_line i (line_of line (items_at u₁ i)) (market_of u₁) ≡ set_conn i Failed [] old =
    ap (λ (z : Line). set_line i z (market_of u₁)) (stands-empty f refl (items_at u₁ i))
    ∙ ap (set_line i Failed) a.market ∙ line-again i (conn_at i old).line Failed [] old l in
    record {
      goes = does-market (set_conn i Failed []) (moved-is refl (moved_on a b) s) k e;
      reported = subst (λ (n : ℕ). Reported (Expired.Failed n ∷ []) q t.m q₁ m) (c ∙ ap (λ (z : Market). (conn_at i z).conn) (sym e)) (reported-one (Expired.Failed conn) r);
      stopped = refl;
    }

-- ---- a pending line

pub pends-unfailed : (u : List ℕ) (i : ℕ) → Pends u i → NotFailed u i
pends-unfailed u i p = pending-stays (conn_at i (market_of u)).line p

-- ---- all leave line

out_line : (t : ℕ) (l : Line) → is_pending l ≡ true → out_of_line t l ≡ l
out_line t (Waiting is since) e = refl
out_line t (Pending is at since) e = refl
out_line t (InLine n a b) e = absurd (ff≢tt refl e)
out_line t Failed e = refl

out_conn : ℕ → Connection → Connection
out_conn t x = with_line (out_of_line t x.line) x

-- who is pending stays what it was
conn-out : (t i : ℕ) (m : Market) → is_pending (conn_at i m).line ≡ true → conn_at i (all_out t m) ≡ conn_at i m
unfolding out_conn
conn-out t i m e =
    let c = conn_at i m in
    get_or-map (out_conn t) m.lines i nobody ∙ (λ j. with_line (out_line t c.line e j) c)

out-less : (t : ℕ) (l : Line) (h : ℕ) → length (items_of (out_of_line t l)) + h ≤ length (items_of l) + h
out-less t (Waiting is since) h = omega arith
out-less t (Pending is at since) h = omega arith
out-less t (InLine n a b) h = omega arith
out-less t Failed h = omega arith

out-keeps : (t : ℕ) (Z : Bound) (k : Work) → SoundW Z k → SoundW Z (on_market (all_out t) k)
unfolding out_conn
out-keeps t Z k s =
    let a : holdings (map (out_conn t) k.market.lines) ≤ holdings k.market.lines =
    map-holdings (out_conn t) (λ x. out-less t x.line (length x.held)) k.market.lines in
    let b = s.spent in
    record { sound = out-sound t k.market s.sound; limits = s.limits; spent = omega arith }

pub lined-log : {u u₁ : List ℕ} {l : Log} → Sound u → Moved u u₁ (with_log l (market_of u)) → Lined u₁
lined-log {u} {u₁} s a =
    let x = lines-count u₁ in
    let y = ap (λ (m : Market). length m.lines) a.market in
    let z = ap (λ (x : Limits). x.L) (moved-limits a) in
    let w = s.market.lines.lines_fit in
    record { sized = a.sized; count = omega arith }

module _ (i t : ℕ) {u u₁ u₂ : List ℕ} (a : Moved u u₁ (with_log (clear (market_of u).log) (market_of u))) (b : Moved u₁ u₂ (each_line (out_of_line t) (market_of u₁))) where
  out-moved : Moved u u₂ (all_out t (market_of u))
  out-moved = moved-is refl (moved_on a b) (ap (each_line (out_of_line t)) a.market)

  out-ready : {v : List ℕ} {n : ℕ} → Ready u v n → Ready u₂ v n
  out-ready r = ready-then (on_market (all_out t)) (λ Z k e s. out-keeps t Z k s) refl (does-market (all_out t) out-moved) r

  out-here : i < line_count u → i < line_count u₂
  unfolding out_conn
  out-here h =
      let x = lines-count u in
      let y = lines-count u₂ in
      let z : length (market_of u₂).lines ≡ length (market_of u).lines = ap (λ (m : Market). length m.lines) out-moved.market ∙ length-map (market_of u).lines (out_conn t) in
      omega arith

  out-line-is : Pends u i → (conn_at i (market_of u₂)).line ≡ (conn_at i (market_of u)).line
  out-line-is o = ap (λ (m : Market). (conn_at i m).line) out-moved.market ∙ ap (λ (c : Connection). c.line) (conn-out t i (market_of u) o)

  pub take-over-ready : {v : List ℕ} {n : ℕ} → Ready u v n → i < line_count u → Pends u i → Ready u₂ v n × ((i < line_count u₂) × NotFailed u₂ i)
  take-over-ready r h o = (out-ready r, (out-here h, subst (λ (l : Line). is_failed l ≡ false) (sym (out-line-is o)) (pends-unfailed u i o)))

  -- what is taken over is what the line held
  take-over-does : {v u₃ v₁ : List ℕ} {n n₁ : ℕ} → 7 * n ≤ length v → Pends u i → Does (take_over i (items_of (conn_at i (market_of u₂)).line) t) u₂ v n u₃ v₁ n₁
      → Does (λ k. take_over i (items_of (conn_at i (market_of u)).line) t (on_market (all_out t) k)) u v n u₃ v₁ n₁
  take-over-does {v} {u₃} {v₁} {n} {n₁} l o d =
      does-then (on_market (all_out t)) (take_over i (items_of (conn_at i (market_of u)).line) t) l (does-market (all_out t) out-moved)
      (subst (λ (x : Line). Does (take_over i (items_of x) t) u₂ v n u₃ v₁ n₁) (out-line-is o) d)

  -- then the others are swept
  pub rebuild-does : {v u₃ v₁ u₄ v₂ : List ℕ} {n n₁ n₂ : ℕ} → Ready u v n → Pends u i → Does (take_over i (items_of (conn_at i (market_of u₂)).line) t) u₂ v n u₃ v₁ n₁ → Does (sweep t) u₃ v₁ n₁ u₄ v₂ n₂
      → Does (λ k. sweep t (take_over i (items_of (conn_at i (market_of u)).line) t (on_market (all_out t) k))) u v n u₄ v₂ n₂
  rebuild-does r o d f =
      let l = r.room in
      does-then (λ k. take_over i (items_of (conn_at i (market_of u)).line) t (on_market (all_out t) k)) (sweep t) (omega arith) (take-over-does (omega arith) o d) f

pub take-over-left : (i t : ℕ) {u v u₁ v₁ : List ℕ} {n n₁ : ℕ} → Ready u v n → i < line_count u → length v₁ ≡ length v
    → Does (take_over i (items_of (conn_at i (market_of u)).line) t) u v n u₁ v₁ n₁ → Ready u₁ v₁ n₁
take-over-left i t {u} {v} {u₁} {v₁} {n} {n₁} r h l d =
    let is = items_of (conn_at i (market_of u)).line in
    ready-then (take_over i is t)
    (λ Z k e s.
    let x = lines-count u in
    let y : length k.market.lines ≡ length (market_of u).lines = ap (λ (m : Market). length m.lines) e in
    let z : length (items_of (conn_at i k.market).line) ≡ length is = ap (λ (m : Market). length (items_of (conn_at i m).line)) e in
    let a = events-le is in
    let b = s.spent in
    take_over-sound Z i is t k (omega arith) (omega arith) (omega arith) s.limits s.sound)
    l d r

pub rebuild-done : (i now : ℕ) (q : List ℕ) {u v u₁ v₁ q₁ : List ℕ} (t : Turned) {conn n m : ℕ} → conn ≡ (conn_at i (market_of u)).conn
    → Does (λ k. sweep now (take_over i (items_of (conn_at i (market_of u)).line) now (on_market (all_out now) k))) u v t.n u₁ v₁ n
    → (m ≡ t.m + 1) × (q₁ ≡ over_at (3 * t.m) (report_words (Expired.Rebuild conn (n - t.n))) q)
    → Turns (rebuild_from i (items_of (conn_at i (market_of u)).line) now) u v q t u₁ v₁ q₁ (record { n = n; m = m; stopped = true })
unfolding rebuild_from
rebuild-done i now q {u} {v} {u₁} {v₁} {q₁} t {conn} {n} {m} c d r k e =
    let g = d k e in
    let p = c ∙ ap (λ (z : Market). (conn_at i z).conn) (sym e) in
    let o = goes-since g in
    record {
      goes = g;
      reported = subst (λ (x : Expired). Reported (x ∷ []) q t.m q₁ m) (λ j. Expired.Rebuild (p j) (o j)) (reported-one (Expired.Rebuild conn (n - t.n)) r);
      stopped = refl;
    }

-- ---- a report of records that were put out

pub aligned-none : {t : Turned} (conn n : ℕ) (q : List ℕ) → t.n ≤ n → n ≤ t.n → AlignedReport conn n q t q (record { n = n; m = t.m; stopped = false })
aligned-none {t} conn n q l h = record { reported = rw (le-ltb t.n n (omega arith)) (reported-none q t.m); records = refl; goes_on = refl }

pub aligned-some : {t : Turned} {q q₁ : List ℕ} {m : ℕ} (conn n : ℕ) → t.n < n → (m ≡ t.m + 1) × (q₁ ≡ over_at (3 * t.m) (report_words (Expired.Aligned conn (n - t.n))) q)
    → AlignedReport conn n q t q₁ (record { n = n; m = m; stopped = false })
aligned-some {t} conn n h r = record { reported = rw (lt-ltb t.n n h) (reported-one (Expired.Aligned conn (n - t.n)) r); records = refl; goes_on = refl }

ltb_as : (a b c d : ℕ) → (a < b → c < d) → (b ≤ a → d ≤ c) → ltb a b ≡ ltb c d
ltb_as a b c d f g = go (either (ltb a b))
  where
    go : (ltb a b ≡ true) ⊎ (ltb a b ≡ false) → ltb a b ≡ ltb c d
    go (inl e) = e ∙ sym (lt-ltb c d (f (ltb-true e)))
    go (inr e) = e ∙ sym (le-ltb c d (g (ltb-false e)))

-- ---- the turns, by cases. u is the store, v the output, q the reports

module _ (u v q : List ℕ) (t : Turned) (u₁ v₁ q₁ : List ℕ) (t₁ : Turned) where
  abbrev Did : (Work → Turn) → Type 0
  Did f = Turns f u v q t u₁ v₁ q₁ t₁

  -- the same turn
  turns_as : (f g : Work → Turn) → ((k : Work) → k.market ≡ market_of u → f k ≡ g k) → Did f → Did g
  turns_as f g e p k s = subst (λ (x : Turn). Makes x (λ rs k' b. Taken u v q t u₁ v₁ q₁ t₁ k k' rs b)) (e k s) (p k s)

  -- what time made of the i-th line
  pub ages-done : (i now : ℕ) {x : Aged} → Ages x (step u i now) → (y : Aging) → x.aging ≡ y
      → Did (λ k. after_time i now k (left y (conn_at i (market_of u)).line, y)) → Did (λ k. aged i now k (conn_at i (market_of u)).line)
  ages-done i now a y e p =
      let l = (conn_at i (market_of u)).line in
      let s : step u i now ≡ (left y l, y) = pair_is (step u i now) (step_line u i now a e) (step_is u i now a e) in
      turns_as (λ k. after_time i now k (left y l, y)) (λ k. aged i now k l)
      (λ k m. ap (after_time i now k) (sym s ∙ ap (λ (z : Market). time_step z.log.base now l) (sym m))) p

  -- a line is reported if the records of the call under way are more
  pub aligned-done : (i conn n : ℕ) (f : Work → Work) → conn ≡ (conn_at i (market_of u)).conn → Does f u v t.n u₁ v₁ n → AlignedReport conn n q t q₁ t₁
      → Did (aligned_by i f)
  aligned-done i conn n f c d r k e =
      let g = d k e in
      let p = c ∙ ap (λ (z : Market). (conn_at i z).conn) (sym e) in
      let o = goes-since g in
      let a = ap length g.out in
      let b = length-append k.out g.more in
      let x = g.count in
      let y = ltb_as t.n n (length k.out) (length (f k).out) (λ z. omega arith) (λ z. omega arith) in
      record {
        goes = subst (λ (z : ℕ). Goes u v t.n u₁ v₁ z k (f k)) (sym r.records) g;
        reported = subst (λ (z : List Expired). Reported z q t.m q₁ t₁.m) (λ j. cond (y j) (Expired.Aligned (p j) (o j) ∷ []) []) r.reported;
        stopped = r.goes_on;
      }

  -- ---- the turn of the i-th line

  module _ (i now : ℕ) (due same : Bool) where
    abbrev line : Line
    line = (conn_at i (market_of u)).line

    -- by the line's way
    pub turn-done : {r : Way} → r ≡ way_of due same now (market_of u) line → (w : Way) → r ≡ w → Did (by_way w i now line)
        → Did (λ k. turn i due same now k line)
    turn-done e w z p =
        turns_as (by_way w i now line) (λ k. turn i due same now k line)
        (λ k s.
        ap (λ (x : Way). by_way x i now line k) (sym z ∙ e ∙ ap (λ (m : Market). way_of due same now m line) (sym s))
        ∙ sym (turn_is i due same now k line))
        p
