-- Demand 3, proved.
use mathlib.Core.Path.{◌≡◌, refl, sym, ◌∙◌, ap, subst, fun_ext}
use mathlib.Core.List.{List, [], ◌∷◌, ◌++◌, map}
use mathlib.Core.Bool.{Bool, true, false, ◌||◌, cond}
use Prim.Native.Nat.{ℕ, suc, ◌+◌, ◌-◌, ◌≤◌, ◌<◌}
use native.Mathlib.Omega.{arith}
use lib.Dec.{ltb, eqb}
use lib.ListN.{length, get_or, take, drop, length-map, take-append-drop}
use lib.Seq.{take_at, drop_at}
use Rattle.rules.specs.declared.Applied.{Applied}
use Rattle.rules.specs.declared.Kind.{Kind}
use Rattle.rules.specs.Lists.{Each, In, Rising, any, index}
use Rattle.rules.specs.Quantities.{Key, same}
use Rattle.rules.specs.Log.{end, keys}
use Rattle.rules.specs.Lines.{Connection, Failed, InLine, Line, Market, Pending, Waiting, is_pending, nobody, line_for}
use Rattle.rules.specs.Refusals.{BookEvent, Call, Drop, Print, Promote, Reset, Snapshot, Subscribe, Tick, room_needed, short}
use Rattle.rules.specs.Answers.{Said}
use Rattle.rules.specs.Demand.{Demand, Demand3, Ends, Goes, GoesOn, History, Sent, SentAs, Unrefused, advanced, after, answers, book_keys, books, delivered_of, events_of, farthest, highest, is_printed, next_of, numbered, own, own_books, own_prints, prints_by, records, run, set_up, timeless}
use Rattle.rules.proofs.Tests.{eqb-other, eqb_same, ff≢tt, or-false-left, or-false-right}
use Rattle.rules.proofs.ListLaws.{each-imp}
use Rattle.rules.proofs.Order.{same-itself, same_true, same_pair, same_pair-itself, same_pair-true}
use Rattle.rules.proofs.Tables.{news-mono}
use Rattle.rules.proofs.Invariant.{Sorted, end_is}
use Rattle.rules.proofs.History.{GoodH, agreed, in-line-agrees, numbers-count, run-good, set_up-good}
use Rattle.rules.proofs.Still.{line_in}
use Rattle.rules.proofs.Going.{Calm, CalmLine, Fits, Going, counting, new_keys, new_pairs, print_keys, print_pairs, printing, room_of, seen_key, seen_pair}
use Rattle.rules.proofs.RunOn.{Closed, closed_of, fits-of, unrefused-of}
use Rattle.rules.proofs.OwnCalls.{each-order, keys-printed, own-books, own-copies, own-events, own-prints, pairs-printed, printed-in}

-- ---- another order

module _ (U : List Key) (m : Market) (xs ys : List Call) (o : (c : ℕ) → own c ys ≡ own c xs) where
  events-same : (c : ℕ) → events_of c ys ≡ events_of c xs
  events-same c = sym (own-events c ys) ∙ ap (events_of c) (o c) ∙ own-events c xs

  prints-same : (k : Key) (c : ℕ) → prints_by k c ys ≡ prints_by k c xs
  prints-same k c = sym (own-prints k c ys) ∙ ap (prints_by k c) (o c) ∙ own-prints k c xs

  counting-same : counting ys ≡ counting xs
  counting-same = fun_ext (λ c. ap length (events-same c))

  printing-same : (k : Key) → printing k ys ≡ printing k xs
  printing-same k = fun_ext (λ c. prints-same k c)

  going-order : Going U m xs → Going U m ys
  going-order g = record {
    theirs = each-order (Goes m) to back xs ys o g.theirs;
    rises = g.rises;
    calm = each-imp (Calm U m.log.base (end m.log) xs) (Calm U m.log.base (end m.log) ys)
        (λ s h. subst (λ ev. CalmLine U m.log.base (end m.log) ev s.line) (sym (events-same s.conn)) h) m.lines g.calm;
    beyond = g.beyond;
    begins = g.begins;
  }
    where
      to : (x : Call) → Goes m x → Goes m (timeless x)
      to (BookEvent c k msg now room) t = t
      to (Print c k msg now room) t = t
      to (Subscribe c limit now) t = t
      to (Snapshot c i msg now room) t = t
      to (Drop c now room) t = t
      to (Promote now room) t = t
      to (Reset now) t = t
      to (Tick answers now room reports) t = t

      back : (x : Call) → Goes m (timeless x) → Goes m x
      back (BookEvent c k msg now room) t = t
      back (Print c k msg now room) t = t
      back (Subscribe c limit now) t = t
      back (Snapshot c i msg now room) t = t
      back (Drop c now room) t = t
      back (Promote now room) t = t
      back (Reset now) t = t
      back (Tick answers now room reports) t = t

  fits-order : Fits m xs → Fits m ys
  fits-order f =
      let fa : farthest m (counting ys) ≡ farthest m (counting xs) = ap (farthest m) counting-same in
      let kr : new_keys m ys ≤ new_keys m xs = news-mono same same_true same-itself (print_keys ys) (print_keys xs) (seen_key m)
      (each-imp (λ k. (c : ℕ) × (0 < prints_by k c ys)) (λ k. any (λ j. same k j) (print_keys xs) ≡ true)
      (λ k h. (printed-in k h.0 xs (subst (λ n. 0 < n) (prints-same k h.0) h.1)).1) (print_keys ys) (keys-printed ys)) in
      let pr : new_pairs m ys ≤ new_pairs m xs = news-mono same_pair same_pair-true same_pair-itself (print_pairs ys) (print_pairs xs) (seen_pair m)
      (each-imp (λ p. 0 < prints_by p.0 p.1 ys) (λ p. any (λ q. same_pair p q) (print_pairs xs) ≡ true)
      (λ p h. (printed-in p.0 p.1 xs (subst (λ n. 0 < n) (prints-same p.0 p.1) h)).0) (print_pairs ys) (pairs-printed ys)) in
      record {
        rooms = each-order (λ x. short (room_of x) m ≡ false) (λ x t. subst (λ n. ltb n (room_needed m.limits) ≡ false) (sym (same-room x)) t)
            (λ x t. subst (λ n. ltb n (room_needed m.limits) ≡ false) (same-room x) t) xs ys o f.rooms;
        log_fits = λ z. let h = f.log_fits (omega arith) in let h₀ = h.0 in let h₁ = h.1 in (omega arith, omega arith);
        keys_fit = λ z. let h = f.keys_fit (omega arith) in omega arith;
        pairs_fit = λ z. let h = f.pairs_fit (omega arith) in omega arith;
        counts_fit = λ k c z. let e = prints-same k c in let h = f.counts_fit k c (omega arith) in omega arith;
      }
    where
      same-room : (x : Call) → room_of (timeless x) ≡ room_of x
      same-room (BookEvent c k msg now room) = refl
      same-room (Print c k msg now room) = refl
      same-room (Subscribe c limit now) = refl
      same-room (Snapshot c i msg now room) = refl
      same-room (Drop c now room) = refl
      same-room (Promote now room) = refl
      same-room (Reset now) = refl
      same-room (Tick answers now room reports) = refl

  sent-same : (r : Applied) → Sent m ys r → Sent m xs r
  sent-same r h = go r.kind h
    where
      c : ℕ
      c = r.conn

      n : ℕ
      n = next_of (line_for c m)

      go : (k : Kind) → SentAs k m ys r → SentAs k m xs r
      go Kind.Snapshot t = t
      go Kind.Book t = subst (In r) (sym (own-books c n ys) ∙ ap (own_books c n) (o c) ∙ own-books c n xs) t
      go Kind.Print t = (subst (In (r.key, r.message)) (sym (own-copies c ys) ∙ ap (own_prints c) (o c) ∙ own-copies c xs) t.0, t.1, t.2)

  ends : (m' : Market) (out : List Applied) (said : List Said) → Closed U m ys m' out said → Ends m U xs ys m' out said
  ends m' out said c =
      let l₁ = length-map m.log.entries (λ e. e.0) in
      let l₂ = length-map m'.log.entries (λ e. e.0) in
      let ba = c.base in
      let lk : take (end m'.log - m.log.base) U ≡ keys m'.log =
      ap (take (end m'.log - m.log.base)) c.begins ∙ take_at (keys m'.log) c.beyond (end m'.log - m.log.base) (omega arith) in
      record {
        limits = c.limits;
        lines = c.lines ∙ ap (λ (f : ℕ → ℕ). map (advanced f) m.lines) counting-same;
        base = c.base;
        at_end = c.at_end ∙ ap (farthest m) counting-same;
        log_keys = sym lk;
        once = c.once ∙ ap (numbered (end m.log)) (sym (ap (drop (end m.log - m.log.base)) (lk ∙ c.grew) ∙ drop_at (keys m.log) c.newer (end m.log - m.log.base) (omega arith)));
        applied = λ k. c.applied k ∙ ap (highest k m) (printing-same k);
        rise = c.rise;
        answered = c.answered;
        delivered = λ k d. c.delivered k d ∙ ap (λ (n : ℕ). delivered_of k d m + n) (prints-same k d);
        key_rows = λ k. c.key_has k ∙ ap (λ (f : ℕ → ℕ). seen_key m k || is_printed m f) (printing-same k);
        count_rows = λ k d. c.pair_has k d ∙ ap (λ (n : ℕ). seen_pair m (k, d) || ltb 0 n) (prints-same k d);
        sent = each-imp (Sent m ys) (Sent m xs) sent-same out c.sent;
        log = c.log;
        touched = c.touched;
      }

  pub any_order : Going U m xs → Unrefused m xs → Unrefused m ys × Ends m U xs ys (after m ys) (records m ys) (answers m ys)
  any_order g u =
      let g' = going-order g in
      let u' = unrefused-of U ys m g' (fits-order (fits-of U xs m g u)) in
      (u', ends (after m ys) (records m ys) (answers m ys) (closed_of U ys m g' u'))

-- ---- from a history

-- each line is found by its connection
found : (ls : List Connection) → Sorted ls → Each (λ s. line_in s.conn ls ≡ s.line) ls
unfolding Rising
found [] o = tt
found (x ∷ xs) o = (here (eqb x.conn x.conn) (eqb_same x.conn), later xs o.0 (found xs o.1))
  where
    here : (b : Bool) → b ≡ true → (get_or (x ∷ xs) (cond b 0 (suc (index (λ s. eqb s.conn x.conn) xs))) nobody).line ≡ x.line
    here true e = refl
    here false e = absurd (ff≢tt refl e)

    one : (y : Connection) (b : Bool) → b ≡ false → line_in y.conn xs ≡ y.line → (get_or (x ∷ xs) (cond b 0 (suc (index (λ s. eqb s.conn y.conn) xs))) nobody).line ≡ y.line
    one y true e h = absurd (ff≢tt e refl)
    one y false e h = h

    later : (l : List Connection) → Each (λ y. x.conn < y.conn) l → Each (λ y. line_in y.conn xs ≡ y.line) l → Each (λ y. line_in y.conn (x ∷ xs) ≡ y.line) l
    later [] a b = tt
    later (y ∷ ys) a b = (one y (eqb x.conn y.conn) (eqb-other (λ (z : x.conn ≡ y.conn). let t = a.0 in omega arith)) b.0, later ys a.1 b.1)

none_any : {A : Type 0} (t : A → Bool) (l : List A) → any t l ≡ false → Each (λ x. t x ≡ false) l
none_any t [] h = tt
none_any t (x ∷ xs) h = (or-false-left (t x) (any t xs) h, none_any t xs (or-false-right (t x) (any t xs) h))

both : {A : Type 0} (P Q : A → Type 0) (l : List A) → Each P l → Each Q l → Each (λ x. P x × Q x) l
both P Q [] a b = tt
both P Q (x ∷ xs) a b = ((a.0, b.0), both P Q xs a.1 b.1)

going_of : (s : ℕ) (h : History) → GoodH s h → any (λ s. is_pending s.line) h.market.lines ≡ false
    → ((c n : ℕ) (a b : Bool) → line_for c h.market ≡ InLine n a b → h.market.log.base ≤ n)
    → (U : List Key) (xs : List Call) → GoesOn h.market U xs → Going U h.market xs
going_of s h g np nb U xs go = record {
  theirs = go.theirs;
  rises = g.rises;
  calm = each-imp (λ x. (line_in x.conn m.lines ≡ x.line) × (is_pending x.line ≡ false)) (Calm U m.log.base (end m.log) xs)
      (λ x t. calm x.conn x.line t.0 t.1) m.lines
      (both (λ x. line_in x.conn m.lines ≡ x.line) (λ x. is_pending x.line ≡ false) m.lines (found m.lines g.rises) (none_any (λ x. is_pending x.line) m.lines np));
  beyond = drop (length (keys m.log)) U;
  begins = sym (take-append-drop (length (keys m.log)) U) ∙ ap (λ (o : List Key). o ++ drop (length (keys m.log)) U) go.begins;
}
  where
    m : Market
    m = h.market

    calm : (c : ℕ) (l : Line) → line_in c m.lines ≡ l → is_pending l ≡ false → CalmLine U m.log.base (end m.log) (events_of c xs) l
    calm c (Waiting is since) e p = tt
    calm c (Pending is at since) e p = absurd (ff≢tt p refl)
    calm c Failed e p = tt
    calm c (InLine n a b) e p =
        let ag = agreed s (book_keys h.out) (h.taken c) (h.entry c) n (in-line-agrees s h g c n a b e) in
        let q = ag.put_out in
        let l₁ = end_is g in
        let l₂ = length-map (books h.out) (λ x. x.1) in
        let l₃ = length-map m.log.entries (λ x. x.0) in (
          nb c n a b e,
          omega arith,
          (
            drop (length (events_of c xs)) (drop (n - m.log.base) U),
            sym (take-append-drop (length (events_of c xs)) (drop (n - m.log.base) U)) ∙ ap (λ (o : List Key). o ++ drop (length (events_of c xs)) (drop (n - m.log.base) U)) (go.follows c n a b e),
          ),
        )

pub demand : (s : ℕ) (h : History) → GoodH s h → Demand s h
demand s h g = record {
  numbers = numbers-count s (books h.out) g.numbers;
  agrees = λ c n a b e. agreed s (book_keys h.out) (h.taken c) (h.entry c) n (in-line-agrees s h g c n a b e);
  goes_on = λ np nb U xs go u ys o. any_order U h.market xs ys o (going_of s h g np nb U xs go) u;
}

-- Demand 3
pub demand3 : Demand3
demand3 l start xs = demand start (run (set_up l start) xs) (run-good start (set_up l start) xs (set_up-good l start))
