-- Take-over, line-up and sweep keep the invariant.
use Rattle.std.specs.Prelude.{None, Some}
use mathlib.Core.Path.{◌≡◌, refl, sym, ◌∙◌, ap, subst}
use mathlib.Core.List.{List, [], ◌++◌, map, append_assoc}
use mathlib.Core.Bool.{Bool, true, false, not, cond}
use Prim.Native.Nat.{ℕ, zero, suc, ◌+◌, ◌-◌, ◌≤◌, ◌<◌}
use native.Mathlib.Omega.{arith}
use lib.Dec.{eqb}
use lib.ListN.{length, get_or, take, drop, length-append, length-drop, length-map, take-append-drop}
use lib.Seq.{length-take-le}
use Rattle.rules.specs.declared.Item.{Item}
use Rattle.rules.specs.Lists.{any, maybe}
use Rattle.rules.specs.Quantities.{Key}
use Rattle.rules.specs.Log.{end, keys}
use Rattle.rules.specs.Lines.{Failed, InLine, Line, Market, Pending, Waiting, conn_at, event_keys, events, is_failed, items_of, nobody, snapshot_of, some_due}
use Rattle.rules.specs.Place.{Place, alignment, fits}
use Rattle.rules.specs.Entering.{Work, aligns, enter, line_up, pendings, push_all, put_items, round, rounds, sweep, take_over, try_line_up}
use Rattle.rules.specs.Demand.{books, now_entered}
use Rattle.rules.proofs.Tests.{by_cond, by-maybe, none≢some}
use Rattle.rules.proofs.ListLaws.{append-nil, each_at, map-append, map-drop}
use Rattle.rules.proofs.Invariant.{Agree, ConnOk, GoodW, LineOk, Suffix, end_is, keys_of, present}
use Rattle.rules.proofs.Moves.{Grown, alignment-fits, enter-good, fits-law, push_all-good, push_all-grown, put_items-good, put_items-grown}

pub here : (i : ℕ) (m : Market) (l : Line) → (conn_at i m).line ≡ l → is_failed l ≡ false → i < length m.lines
here i m l e f = present m.lines i (ap is_failed e ∙ f)

module _ (s : ℕ) (B : List (ℕ × Key)) (T : ℕ → List Key) (E : ℕ → ℕ) where
  pub end_of : (w : Work) → GoodW s B T E w → s + length (keys_of (B ++ books w.out)) ≡ end w.market.log
  end_of w g =
      let a = end_is g in
      let b : length (keys_of (B ++ books w.out)) ≡ length (B ++ books w.out) = length-map (B ++ books w.out) (λ x. x.1) in
      let c : length (keys w.market.log) ≡ length w.market.log.entries = length-map w.market.log.entries (λ e. e.0) in
      omega arith

  pub all_more : (w w' : Work) (X : List Key) → Grown w w' X → keys_of (B ++ books w'.out) ≡ keys_of (B ++ books w.out) ++ X
  all_more w w' X h =
      map-append (λ x. x.1) B (books w'.out) ∙ ap (λ (o : List Key). keys_of B ++ o) h.more
      ∙ sym (append_assoc (keys_of B) (keys_of (books w.out)) X) ∙ ap (λ (o : List Key). o ++ X) (sym (map-append (λ x. x.1) B (books w.out)))

  pub line_ok : (i : ℕ) (w : Work) (l : Line) → (conn_at i w.market).line ≡ l → is_failed l ≡ false → GoodW s B T E w
      → LineOk s (keys_of (B ++ books w.out)) (T (conn_at i w.market).conn) (now_entered w.entered E (conn_at i w.market).conn) l
  line_ok i w l e f g = subst (LineOk s (keys_of (B ++ books w.out)) (T (conn_at i w.market).conn) (now_entered w.entered E (conn_at i w.market).conn)) e
      (each_at (ConnOk s (keys_of (B ++ books w.out)) T (now_entered w.entered E)) w.market.lines i nobody (here i w.market l e f) g.conns)

  -- into line after w' has put out X more than w
  grown-enter : (i e n : ℕ) (a b : Bool) (w w' : Work) (X : List Key) → Grown w w' X → i < length w.market.lines
      → Agree s (keys_of (B ++ books w'.out)) (T (conn_at i w.market).conn) e n
      → GoodW s B T E w' → GoodW s B T E (enter i e n a b w')
  grown-enter i e n a b w w' X h lt ok g = enter-good s B T E i e n a b w'
      (subst (λ ls. i < length ls) (sym h.lines) lt)
      (subst (λ ls. Agree s (keys_of (B ++ books w'.out)) (T (get_or ls i nobody).conn) e n) (sym h.lines) ok) g

  pub take_over-good : (i : ℕ) (is : List Item) (now : ℕ) (w : Work) → i < length w.market.lines → Suffix (event_keys is) (T (conn_at i w.market).conn)
      → GoodW s B T E w → GoodW s B T E (take_over i is now w)
  unfolding take_over
  take_over-good i is now w lt suf g =
      let c = (conn_at i w.market).conn in
      let w' = put_items c now is w in
      let h = put_items-grown c now is w in
      let g' = put_items-good s B T E c now is w g in
      let m = all_more w w' (event_keys is) h in
      grown-enter i (end w.market.log) (end w'.market.log) (not (any (snapshot_of 0) is)) (not (any (snapshot_of 1) is)) w w' (event_keys is) h lt
      (record {
        before = keys_of (B ++ books w.out);
        ks = event_keys is;
        beyond = [];
        earlier = suf.0;
        out = m ∙ ap (λ (o : List Key). keys_of (B ++ books w.out) ++ o) (sym (append-nil (event_keys is)));
        taken = suf.1;
        at = end_of w g;
        upto = let a = end_of w g in let b = end_of w' g' in let d = ap length m ∙ length-append (keys_of (B ++ books w.out)) (event_keys is) in omega arith;
      })
      g'

  pub line_up-good : (i now : ℕ) (p : Place) (w : Work) (is : List Item) → items_of (conn_at i w.market).line ≡ is → i < length w.market.lines
      → Suffix (event_keys is) (T (conn_at i w.market).conn) → p.1 ≤ length (keys w.market.log) → (n : ℕ) → fits (drop p.0 (event_keys is)) (drop p.1 (keys w.market.log)) ≡ Some n
      → GoodW s B T E w → GoodW s B T E (line_up i now p w)
  unfolding line_up
  line_up-good i now p w is e lt suf le n f g = rw e (
      let c = (conn_at i w.market).conn in
      let l = w.market.log in
      let K = keys l in
      let es = drop p.0 (events is) in
      let H = drop p.0 (event_keys is) in
      let fresh = drop (length l.entries - p.1) es in
      let w' = push_all c now fresh w in
      let h = push_all-grown c now fresh w in
      let g' = push_all-good s B T E c now fresh w g in
      let (b, r) = fits-law H (drop p.1 K) n f in
      let hl : length K ≡ length l.entries = length-map l.entries (λ x. x.0) in
      let he : map (λ x. x.0) es ≡ H = map-drop (λ x. x.0) p.0 (events is) in
      let hd : length l.entries - p.1 ≡ length (drop p.1 K) = let a = length-drop p.1 K in omega arith in
      let hx : map (λ x. x.0) fresh ≡ drop (length (drop p.1 K)) H =
      map-drop (λ x. x.0) (length l.entries - p.1) es
      ∙ ap (drop (length l.entries - p.1)) he
      ∙ ap (λ (o : ℕ). drop o H) hd in
      let O : List Key = keys_of (B ++ books w.out) in
      let cut : K ≡ take p.1 K ++ drop p.1 K = sym (take-append-drop p.1 K) in
      let lh : length es ≡ length H = sym (length-map es (λ x. x.0)) ∙ ap length he in
      grown-enter i (l.base + p.1) (l.base + p.1 + length es) false false w w' (map (λ x. x.0) fresh) h lt
      (record {
        before = g.gone ++ take p.1 K;
        ks = H;
        beyond = b;
        earlier = suf.0 ++ take p.0 (event_keys is);
        out = all_more w w' (map (λ x. x.0) fresh) h ∙ ap (λ (o : List Key). O ++ o) hx
            ∙ ap (λ (o : List Key). o ++ drop (length (drop p.1 K)) H) (g.all ∙ ap (λ (o : List Key). g.gone ++ o) cut)
            ∙ simp append_assoc (ap (λ (o : List Key). g.gone ++ (take p.1 K ++ o)) r);
        taken = suf.1 ∙ ap (λ (o : List Key). suf.0 ++ o) (sym (take-append-drop p.0 (event_keys is))) ∙ simp append_assoc;
        at = let a = length-append g.gone (take p.1 K) in let d = length-take-le p.1 K le in let q = g.basis in omega arith;
        upto = omega arith;
      })
      g')

  pub try_line_up-good : (quiet : Bool) (i now : ℕ) (w : Work) → GoodW s B T E w → GoodW s B T E (try_line_up quiet i now w)
  unfolding try_line_up
  try_line_up-good quiet i now w g = go (conn_at i w.market).line refl
    where
      go : (l : Line) → (conn_at i w.market).line ≡ l → GoodW s B T E (maybe w (λ p. line_up i now p w) (aligns quiet l w.market))
      go (Waiting is since) e = g
      go (InLine n a b) e = g
      go Failed e = g
      go (Pending is at since) e = by-maybe (GoodW s B T E) (aligns quiet (Pending is at since) w.market) g
          (λ p h. let q = alignment-fits quiet (event_keys is) (keys w.market.log) p (un (some_due w.market.lines) p h) in
          line_up-good i now p w is (ap items_of e) (here i w.market (Pending is at since) e refl)
          (line_ok i w (Pending is at since) e refl g) q.0 q.1.0 q.1.1 g)
        where
          un : (b : Bool) (p : Place) → cond b None (alignment quiet (event_keys is) (keys w.market.log)) ≡ Some p → alignment quiet (event_keys is) (keys w.market.log) ≡ Some p
          un true p h = absurd (none≢some h)
          un false p h = h

  pub round-good : (n i now : ℕ) (w : Work) → GoodW s B T E w → GoodW s B T E (round n i now w)
  unfolding round
  round-good zero i now w g = g
  round-good (suc n) i now w g = round-good n (suc i) now (try_line_up false i now w) (try_line_up-good false i now w g)

  pub rounds-good : (n now : ℕ) (w : Work) → GoodW s B T E w → GoodW s B T E (rounds n now w)
  unfolding rounds
  rounds-good zero now w g = g
  rounds-good (suc n) now w g =
      let w' = round (length w.market.lines) 0 now w in
      let g' = round-good (length w.market.lines) 0 now w g in
      by_cond (GoodW s B T E) (eqb (pendings w'.market.lines) (pendings w.market.lines)) (λ e. g') (λ e. rounds-good n now w' g')

  pub sweep-good : (now : ℕ) (w : Work) → GoodW s B T E w → GoodW s B T E (sweep now w)
  sweep-good now w g = rounds-good (suc (length w.market.lines)) now w g
