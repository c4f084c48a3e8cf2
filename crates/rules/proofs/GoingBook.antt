-- Connections in line go on: a book event.
use mathlib.Core.Path.{◌≡◌, refl, sym, ◌∙◌, ap, subst}
use mathlib.Core.Logic.{◌≢◌, inl, inr}
use mathlib.Core.List.{List, [], ◌∷◌, ◌++◌, map, append_assoc}
use mathlib.Core.Bool.{Bool, true, false, ◌||◌, cond}
use Prim.Native.Nat.{ℕ, suc, ◌+◌, ◌-◌, ◌^◌, ◌≤◌, ◌<◌, max}
use native.Mathlib.Omega.{arith}
use lib.Dec.{ltb, eqb}
use lib.ListN.{length, get_or, drop, set, length-append, length-map, get_or-append, get_or-map}
use lib.Seq.{get_or-drop, drop-append_seam, map-set_same, drop-drop}
use Rattle.rules.specs.declared.Applied.{Applied}
use Rattle.rules.specs.Lists.{Each, largest}
use Rattle.rules.specs.Quantities.{Key, book_out, max_number, no_key, same}
use Rattle.rules.specs.Log.{Log, end, keys, push}
use Rattle.rules.specs.Lines.{Connection, Failed, InLine, Line, Market, Pending, Waiting, conn_at, is_failed, is_in_line, is_pending, item_count, items_of, line_of, nobody, set_line, line_for, with_line}
use Rattle.rules.specs.Entering.{Work, begin, on_market, push_out, sweep}
use Rattle.rules.specs.Calls.{apply, book_event, did, full_log, full_numbers, refuse}
use Rattle.rules.specs.Refusals.{BookEvent, Call, short, step}
use Rattle.rules.specs.Demand.{Sent, advanced, applied_of, books, copies, delivered_of, events_of, farthest, forward, highest, next_of, numbered, prints_by, reach}
use Rattle.rules.proofs.Tests.{by_cond, eqb-other, eqb_same, ff≢tt, leb-false, lt-leb, ltb-false, ltb-true}
use Rattle.rules.proofs.ListLaws.{any-set, append-nil, each_at, each-imp, map-append}
use Rattle.rules.proofs.Order.{same-itself}
use Rattle.rules.proofs.Tables.{cond_same}
use Rattle.rules.proofs.Invariant.{present, revise, sorted-set}
use Rattle.rules.proofs.History.{conn-of}
use Rattle.rules.proofs.Still.{Still, in-line-set, largest-absorb, largest-at-least, map-set, sum-set-same, sweep-still}
use Rattle.rules.proofs.SentCalls.{sent-book}
use Rattle.rules.proofs.Going.{Calm, CalmLine, Going, Judged, Moved, Next, Printed, counting, print_keys, print_pairs, refuse-judged, seen_key}

module _ (U : List Key) (m : Market) (c : ℕ) (k : Key) (msg now room : ℕ) (xs : List Call) (g : Going U m (BookEvent c k msg now room ∷ xs))
    (n : ℕ) (a b : Bool) (e : line_for c m ≡ InLine n a b) where
  x : Call
  x = BookEvent c k msg now room

  i : ℕ
  i = line_of c m

  v : Connection
  v = with_line (InLine (suc n) a b) (conn_at i m)

  i_lt : i < length m.lines
  unfolding i
  i_lt = present m.lines (line_of c m) (ap is_failed e)

  c-is : (conn_at i m).conn ≡ c
  unfolding i
  c-is = conn-of c m (ap is_failed e)

  others : (d : ℕ) → d ≢ (conn_at i m).conn → events_of d (x ∷ xs) ≡ events_of d xs
  unfolding events_of x
  others d ne = rw (eqb-other (λ (z : c ≡ d). ne (sym z ∙ sym c-is)))

  mine : events_of (conn_at i m).conn (x ∷ xs) ≡ k ∷ events_of (conn_at i m).conn xs
  unfolding events_of x
  mine =
      ap
      (λ (b : Bool). cond b (k ∷ events_of (conn_at i m).conn xs) (events_of (conn_at i m).conn xs))
      (ap (λ (d : ℕ). eqb c d) c-is ∙ eqb_same c)

  at_i : Calm U m.log.base (end m.log) (x ∷ xs) (conn_at i m)
  unfolding x
  at_i = each_at (Calm U m.log.base (end m.log) (x ∷ xs)) m.lines i nobody i_lt g.calm

  ready : (m.log.base ≤ n) × (n ≤ end m.log) × ((rest : List Key) × (drop (n - m.log.base) U ≡ k ∷ (events_of (conn_at i m).conn xs ++ rest)))
  unfolding i
  ready =
      let h : CalmLine U m.log.base (end m.log) (events_of (conn_at i m).conn (x ∷ xs)) (InLine n a b) = subst (CalmLine U m.log.base (end m.log) (events_of (conn_at i m).conn (x ∷ xs))) e at_i in
      (h.0, h.1, (h.2.0, h.2.1 ∙ ap (λ (o : List Key). o ++ h.2.0) mine))

  M : Log → Market
  M l = record { limits = m.limits; log = l; prints = m.prints; lines = set m.lines i v }

  calm-mono : (base base' e₁ e₂ : ℕ) (ev : List Key) (l : Line) → base' ≡ base → e₁ ≤ e₂ → CalmLine U base e₁ ev l → CalmLine U base' e₂ ev l
  calm-mono base base' e₁ e₂ ev (Waiting is since) p q h = tt
  calm-mono base base' e₁ e₂ ev (Pending is at since) p q h = h
  calm-mono base base' e₁ e₂ ev (InLine j y z) p q h = (omega arith, (let t = h.1 in omega arith), (h.2.0, ap (λ (o : ℕ). drop (j - o) U) p ∙ h.2.1))
  calm-mono base base' e₁ e₂ ev Failed p q h = tt

  moved_at : ◌≡◌ {A = Connection} (advanced (counting (x ∷ xs)) (conn_at i m)) (advanced (counting xs) v)
  unfolding i v
  moved_at =
      let s₀ = conn_at i m in
      let q : n + counting (x ∷ xs) s₀.conn ≡ suc n + counting xs s₀.conn = let z = ap length mine in omega arith in
      let p : forward (counting (x ∷ xs) s₀.conn) s₀.line ≡ InLine (suc n + counting xs s₀.conn) a b =
      ap (forward (counting (x ∷ xs) s₀.conn)) e ∙ ap (λ (z : ℕ). InLine z a b) q in
      λ j. record { conn = s₀.conn; limit = s₀.limit; line = p j; held = s₀.held }

  reach-at : reach (counting (x ∷ xs) (conn_at i m).conn) (conn_at i m).line ≡ suc n + counting xs (conn_at i m).conn
  unfolding i
  reach-at = ap (reach (counting (x ∷ xs) (conn_at i m).conn)) e ∙ (let z = ap length mine in omega arith)

  far_at : suc n ≤ farthest m (counting (x ∷ xs))
  unfolding farthest
  far_at =
      let F : Connection → ℕ = λ s. reach (counting (x ∷ xs) s.conn) s.line in
      let l₁ = length-map m.lines F in
      let l₂ = i_lt in
      let p : get_or (map F m.lines) i 0 ≡ F (conn_at i m) = get_or-map F m.lines i nobody in
      let r = reach-at in
      let q = largest-absorb (end m.log) (suc n) (map F m.lines) i (omega arith) (omega arith) in
      let t = largest-at-least (max (end m.log) (suc n)) (map F m.lines) in omega arith

  module _ (l : Log) (same_base : l.base ≡ m.log.base) (new-end : end l ≡ max (end m.log) (suc n)) where
    far-on : farthest (M l) (counting xs) ≡ farthest m (counting (x ∷ xs))
    unfolding farthest M v
    far-on =
        let F : Connection → ℕ = λ s. reach (counting (x ∷ xs) s.conn) s.line in
        let F' : Connection → ℕ = λ s. reach (counting xs s.conn) s.line in
        let q : map F m.lines ≡ map F' (set m.lines i v) = map-set F F' m.lines i v g.rises i_lt reach-at
        (λ s ne. ap (λ (o : List Key). reach (length o) s.line) (others s.conn ne)) in
        let l₁ = length-map m.lines F in
        let l₂ = i_lt in
        let p : get_or (map F m.lines) i 0 ≡ F (conn_at i m) = get_or-map F m.lines i nobody in
        let r = reach-at in
        ap (λ (z : List ℕ). largest (end l) z) (sym q) ∙ ap (λ (z : ℕ). largest z (map F m.lines)) new-end
        ∙ largest-absorb (end m.log) (suc n) (map F m.lines) i (omega arith) (omega arith)

    moved_on : (out : List Applied) (newer beyond : List Key) → keys l ≡ keys m.log ++ newer → books out ≡ numbered (end m.log) newer → U ≡ keys l ++ beyond
        → (end m.log < end l → (end l - m.log.base + item_count m.lines ≤ m.limits.G) × (end l + item_count m.lines ≤ 2 ^ 64 - 1))
        → Moved U m x xs (M l) out
    unfolding M v
    moved_on out newer beyond grew once begins fitted = record {
      rises = sorted-set nobody m.lines i v refl g.rises;
      goers = λ d. in-line-set d m.lines i v refl (sym in-i);
      calm = revise nobody (Calm U m.log.base (end m.log) (x ∷ xs)) (Calm U l.base (end l) xs) m.lines i v g.rises i_lt
          (λ s ne h. calm-mono m.log.base l.base (end m.log) (end l) (events_of s.conn xs) s.line same_base (omega arith)
          (subst (λ o. CalmLine U m.log.base (end m.log) o s.line) (others s.conn ne) h))
          now-at calm-all;
      beyond = beyond;
      begins = begins;
      lines = sym (map-set (advanced (counting (x ∷ xs))) (advanced (counting xs)) m.lines i v g.rises i_lt moved_at
          (λ s ne. ap (λ (o : List Key). with_line (forward (length o) s.line) s) (others s.conn ne)));
      far = far-on;
      base = same_base;
      items = sum-set-same (λ s. length (items_of s.line)) m.lines i v (sym items-i);
      newer = newer;
      grew = grew;
      once = once;
      fitted = fitted;
    }
      where
        in-i : is_in_line (conn_at i m).line ≡ true
        in-i = unfold i in (ap is_in_line e)

        items-i : length (items_of (conn_at i m).line) ≡ 0
        items-i = unfold i in (ap (λ (z : Line). length (items_of z)) e)

        calm-all : Each (Calm U m.log.base (end m.log) (x ∷ xs)) m.lines
        calm-all = unfold x in g.calm

        now-at : CalmLine U l.base (end l) (events_of (conn_at i m).conn xs) (InLine (suc n) a b)
        now-at =
            let r = ready in
            let r₀ = r.0 in
            let r₁ = r.1 in
            let p : (n - m.log.base) + 1 ≡ suc n - l.base = omega arith in (
              omega arith,
              omega arith,
              (r.2.0, ap (λ (o : ℕ). drop o U) (sym p) ∙ sym (drop-drop 1 (n - m.log.base) U) ∙ ap (drop 1) r.2.1),
            )

  printed-on : (l : Log) (out : List Applied) → ((j : Key) → copies j out ≡ 0) → Printed m x xs (M l) out
  unfolding M v x prints_by print_keys print_pairs highest
  printed-on l out h = record {
    tops = λ j. ap (largest (applied_of j m)) (map-set_same (λ (s : Connection). cond (ltb 0 (prints_by j s.conn xs)) (delivered_of j s.conn m + prints_by j s.conn xs) 0) m.lines i v nobody refl);
    rise = λ j. let z = h j in omega arith;
    deliveries = λ j d. refl;
    counts_le = λ j d. omega arith;
    counts_fit = λ j d z. absurd (omega arith);
    key_row = refl;
    key_le = omega arith;
    key_fits = λ z. absurd (omega arith);
    pair_row = refl;
    pair_le = omega arith;
    pair_fits = λ z. absurd (omega arith);
    key_has = λ j. ap (λ (z : Bool). seen_key m j || z) (any-set (λ (s : Connection). ltb 0 (prints_by j s.conn xs)) m.lines i v nobody refl);
    pair_has = λ j d. refl;
  }

  next-key : n < end m.log → get_or (keys m.log) (n - m.log.base) no_key ≡ k
  next-key lt =
      let r = ready in
      let r₀ = r.0 in
      let l₁ : length (keys m.log) ≡ length m.log.entries = length-map m.log.entries (λ z. z.0) in
      let p₁ : get_or (keys m.log) (n - m.log.base) no_key ≡ get_or U (n - m.log.base) no_key =
      sym (ap (λ (o : List Key). get_or o (n - m.log.base) no_key) g.begins ∙ get_or-append (keys m.log) g.beyond no_key (n - m.log.base) (omega arith)) in
      let p₂ : get_or (drop (n - m.log.base) U) 0 no_key ≡ get_or U ((n - m.log.base) + 0) no_key = get_or-drop (n - m.log.base) U 0 no_key in
      let p₃ : (n - m.log.base) + 0 ≡ n - m.log.base = omega arith in
      p₁ ∙ ap (λ (o : ℕ). get_or U o no_key) (sym p₃) ∙ sym p₂ ∙ ap (λ (o : List Key). get_or o 0 no_key) r.2.1

  new-key : n ≡ end m.log → (rest : List Key) × (U ≡ (keys m.log ++ (k ∷ [])) ++ rest)
  new-key q =
      let r = ready in
      let l₁ : length (keys m.log) ≡ length m.log.entries = length-map m.log.entries (λ z. z.0) in
      let p : n - m.log.base ≡ length (keys m.log) = omega arith in
      let z : g.beyond ≡ k ∷ (events_of (conn_at i m).conn xs ++ r.2.0) =
      sym (drop-append_seam (keys m.log) g.beyond) ∙ ap (λ (o : List Key). drop (length (keys m.log)) o) (sym g.begins) ∙ ap (λ (o : ℕ). drop o U) (sym p) ∙ r.2.1 in
      (events_of (conn_at i m).conn xs ++ r.2.0, g.begins ∙ ap (λ (o : List Key). keys m.log ++ o) z ∙ simp append_assoc)

  calm-still : (base e₁ : ℕ) (ys : List Call) (ls : List Connection) → Each (Calm U base e₁ ys) ls → Each Still ls
  calm-still base e₁ ys ls h = each-imp (Calm U base e₁ ys) Still (λ s t. go (events_of s.conn ys) s.line t) ls h
    where
      go : (ev : List Key) (l : Line) → CalmLine U base e₁ ev l → is_pending l ≡ false
      go ev (Waiting is since) t = refl
      go ev (Pending is at since) t = absurd t
      go ev (InLine j y z) t = refl
      go ev Failed t = refl

  copied : short room m ≡ false → n < end m.log → Next U m x xs (set_line i (InLine (suc n) a b) m) []
  unfolding x M v books numbered copies
  copied rm lt =
      let l = m.log in
      let mo : Moved U m x xs (M l) [] = moved_on l refl (omega arith) [] [] g.beyond (sym (append-nil (keys l))) refl g.begins (λ z. absurd (omega arith)) in
      let pr : Printed m x xs (M l) [] = printed-on l [] (λ j. refl) in
      record { limits = refl; room = rm; log = mo; prints = pr; sent = tt }

  fresh-event : short room m ≡ false → end m.log ≤ n → full_log m ≡ false → full_numbers m ≡ false
      → Judged U m x xs (did apply [] (sweep now (on_market (set_line i (InLine (suc n) a b)) (push_out (conn_at i m).conn now k msg (begin m)))))
  unfolding x M v books numbered copies push_out
  fresh-event rm hi f₅ f₉ =
      let c₀ = (conn_at i m).conn in
      let l = push k now m.log in
      let r = ready in
      let r₁ = r.1 in
      let q : n ≡ end m.log = omega arith in
      let la : length (m.log.entries ++ ((k, now) ∷ [])) ≡ length m.log.entries + 1 = length-append m.log.entries ((k, now) ∷ []) in
      let nk = new-key q in
      let kl : keys l ≡ keys m.log ++ (k ∷ []) = map-append (λ z. z.0) m.log.entries ((k, now) ∷ []) in
      let b₅ : length m.log.entries + item_count m.lines < m.limits.G = leb-false f₅ in
      let b₉ : end m.log + item_count m.lines < 2 ^ 64 - 1 = leb-false f₉ in
      let out : List Applied = book_out c₀ (end m.log) k msg ∷ [] in
      let mo : Moved U m x xs (M l) out = moved_on l refl (omega arith) out (k ∷ []) nk.0 kl refl
      (nk.1 ∙ ap (λ (o : List Key). o ++ nk.0) (sym kl)) (λ z. (omega arith, omega arith)) in
      let pr : Printed m x xs (M l) out = printed-on l out (λ j. let z = cond_same {A = ℕ} (same k j) 0 in omega arith) in
      let w : Work = record { market = M l; out = out; entered = [] } in
      let st : Each Still w.market.lines = calm-still l.base (end l) xs (M l).lines mo.calm in
      let se : Sent m (x ∷ xs) (book_out c₀ (end m.log) k msg) =
      subst (λ d. Sent m (x ∷ xs) (book_out d (end m.log) k msg)) (sym c-is)
      (subst (λ j. Sent m (x ∷ xs) (book_out c j k msg)) (ap next_of e ∙ q) (sent-book m c k msg now room xs)) in
      let nx : Next U m x xs w.market w.out = record { limits = refl; room = rm; log = mo; prints = pr; sent = (se, tt) } in
      let sw = sweep-still now w st in
      subst (λ (z : Work). Judged U m x xs (did apply [] z)) (sym sw) (inl refl, nx, record { log = refl; touched = λ j. refl })

  judged-in-line : short room m ≡ false → Judged U m x xs (book_event i k msg now m (InLine n a b))
  unfolding book_event x
  judged-in-line rm =
      let J = Judged U m x xs in
      let r = ready in
      let r₀ = r.0 in
      let o = did apply [] (sweep now (on_market (set_line i (InLine (suc n) a b)) (push_out (conn_at i m).conn now k msg (begin m)))) in
      by_cond J (ltb n m.log.base) (λ q. absurd (let z : n < m.log.base = ltb-true q in omega arith))
      (λ q. by_cond J (ltb n (end m.log))
      (λ t. by_cond J (same (get_or (keys m.log) (n - m.log.base) no_key) k)
      (λ z. (inr refl, copied rm (ltb-true t), record { log = refl; touched = λ j. refl }))
      (λ z. absurd (ff≢tt z (ap (λ (y : Key). same y k) (next-key (ltb-true t)) ∙ same-itself k))))
      (λ t. let hi : end m.log ≤ n = ltb-false t in
      let fa = far_at in
      let le : end m.log < farthest m (counting (x ∷ xs)) = omega arith in
      refuse-judged U m x xs (full_log m) 5 (refuse (full_numbers m) 9 o)
      (λ f. lt-leb m.limits.G (length m.log.entries + item_count m.lines) (let z = (f.log_fits le).0 in omega arith))
      (λ f₅. refuse-judged U m x xs (full_numbers m) 9 o
      (λ f. lt-leb max_number (end m.log + item_count m.lines) (let z = (f.log_fits le).1 in omega arith))
      (λ f₉. fresh-event rm hi f₅ f₉))))

pub book-judged : (U : List Key) (m : Market) (c : ℕ) (k : Key) (msg now room : ℕ) (xs : List Call) → Going U m (BookEvent c k msg now room ∷ xs)
    → Judged U m (BookEvent c k msg now room) xs (step (BookEvent c k msg now room) m)
unfolding step x i
book-judged U m c k msg now room xs g =
    refuse-judged U m (BookEvent c k msg now room) xs (short room m) 3 (book_event (line_of c m) k msg now m (line_for c m))
    (λ f. f.rooms.0)
    (λ rm. go rm (line_for c m) refl g.theirs.0)
  where
    go : short room m ≡ false → (l : Line) → line_for c m ≡ l → is_in_line l ≡ true → Judged U m (BookEvent c k msg now room) xs (book_event (line_of c m) k msg now m l)
    go rm (Waiting is since) e t = absurd (ff≢tt refl t)
    go rm (Pending is at since) e t = absurd (ff≢tt refl t)
    go rm Failed e t = absurd (ff≢tt refl t)
    go rm (InLine n a b) e t = judged-in-line U m c k msg now room xs g n a b e rm
