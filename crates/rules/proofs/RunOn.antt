-- Connections in line go on: a whole run. It is refused just where its calls do not fit, and what it ends in no order changes.
use mathlib.Core.Path.{◌≡◌, refl, sym, ◌∙◌, ap, subst}
use mathlib.Core.Logic.{◌⊎◌, inl, inr}
use mathlib.Core.List.{List, [], ◌∷◌, ◌++◌, map, append_assoc}
use mathlib.Core.Bool.{Bool, true, false, ◌||◌}
use Prim.Native.Nat.{ℕ, zero, suc, ◌+◌, ◌-◌, ◌^◌, ◌≤◌, ◌<◌}
use native.Mathlib.Omega.{arith}
use lib.Dec.{ltb}
use lib.ListN.{length, length-append, length-map}
use Rattle.rules.specs.declared.Applied.{Applied}
use Rattle.rules.specs.declared.Limits.{Limits}
use Rattle.rules.specs.Lists.{Each, largest}
use Rattle.rules.specs.Quantities.{Key}
use Rattle.rules.specs.Log.{end, keys}
use Rattle.rules.specs.Lines.{Connection, Failed, InLine, Line, Market, Pending, Waiting, is_in_line, item_count}
use Rattle.rules.specs.Calls.{Outcome, did, refused}
use Rattle.rules.specs.Refusals.{BookEvent, Call, Drop, Print, Promote, Reset, Snapshot, Subscribe, Tick, room_needed, step}
use Rattle.rules.specs.Answers.{Said, said_by}
use Rattle.rules.specs.Demand.{ApplyOrDuplicate, Goes, Passed, Sent, Unrefused, advanced, after, answers, applied_of, books, copies, delivered_of, events_of, farthest, forward, highest, is_printed, last_touch, log_by, market_after, numbered, prints_by, reach, records, records_of, touched_of}
use Rattle.rules.proofs.Tests.{either, ltb-false, ltb-true, or-false}
use Rattle.rules.proofs.ListLaws.{any_none, append-nil, each_append, each-imp, each_map}
use Rattle.rules.proofs.Invariant.{books-append}
use Rattle.rules.proofs.Still.{largest-same, line_in, numbered-append}
use Rattle.rules.proofs.SentCalls.{sent-later}
use Rattle.rules.proofs.Going.{Calm, CalmLine, Fits, Going, Judged, Next, Stamped, counting, new_keys, new_pairs, print_keys, print_pairs, printing, room_of, seen_key, seen_pair}
use Rattle.rules.proofs.GoingBook.{book-judged}
use Rattle.rules.proofs.GoingPrint.{print-judged}

-- ---- one call

judged : (U : List Key) (m : Market) (x : Call) (xs : List Call) → Going U m (x ∷ xs) → Judged U m x xs (step x m)
judged U m (BookEvent c k msg now room) xs g = book-judged U m c k msg now room xs g
judged U m (Print c k msg now room) xs g = print-judged U m c k msg now room xs g
judged U m (Subscribe c limit now) xs g = absurd g.theirs.0
judged U m (Snapshot c i msg now room) xs g = absurd g.theirs.0
judged U m (Drop c now room) xs g = absurd g.theirs.0
judged U m (Promote now room) xs g = absurd g.theirs.0
judged U m (Reset now) xs g = absurd g.theirs.0
judged U m (Tick answers now room reports) xs g = absurd g.theirs.0

pub goes_on : (m m' : Market) → ((c : ℕ) → is_in_line (line_in c m'.lines) ≡ is_in_line (line_in c m.lines)) → (x : Call) → Goes m x → Goes m' x
goes_on m m' h (BookEvent c k msg now room) t = h c ∙ t
goes_on m m' h (Print c k msg now room) t = h c ∙ t
goes_on m m' h (Subscribe c limit now) t = t
goes_on m m' h (Snapshot c i msg now room) t = t
goes_on m m' h (Drop c now room) t = t
goes_on m m' h (Promote now room) t = t
goes_on m m' h (Reset now) t = t
goes_on m m' h (Tick answers now room reports) t = t

going_next : (U : List Key) (m : Market) (x : Call) (xs : List Call) (m' : Market) (out : List Applied) → Going U m (x ∷ xs) → Next U m x xs m' out → Going U m' xs
going_next U m x xs m' out g n = record {
  theirs = each-imp (Goes m) (Goes m') (goes_on m m' n.log.goers) xs g.theirs.1;
  rises = n.log.rises;
  calm = n.log.calm;
  beyond = n.log.beyond;
  begins = n.log.begins;
}

-- ---- nothing left to come

far_none : (U : List Key) (m : Market) → Going U m [] → farthest m (counting []) ≡ end m.log
unfolding farthest events_of
far_none U m g = largest-same (end m.log) (map (λ s. reach 0 s.line) m.lines)
    (each_map (Calm U m.log.base (end m.log) []) (λ y. y ≤ end m.log) (λ s. reach 0 s.line) (λ s h. go s.line h) m.lines g.calm)
  where
    go : (l : Line) → CalmLine U m.log.base (end m.log) [] l → reach 0 l ≤ end m.log
    go (Waiting is since) h = omega arith
    go (Pending is at since) h = omega arith
    go (InLine n a b) h = let z = h.1 in omega arith
    go Failed h = omega arith

lines_none : (ls : List Connection) → ls ≡ map (advanced (counting [])) ls
unfolding events_of
lines_none [] = refl
lines_none (s ∷ ss) = let q = lines_none ss in let p : s ≡ advanced (counting []) s = λ i. record { conn = s.conn; limit = s.limit; line = go s.line i; held = s.held } in cc
  where
    go : (l : Line) → l ≡ forward 0 l
    go (Waiting is since) = refl
    go (Pending is at since) = refl
    go (InLine n a b) = ap (λ (z : ℕ). InLine z a b) (omega arith)
    go Failed = refl

top-none : (k : Key) (m : Market) → applied_of k m ≡ highest k m (printing k [])
unfolding highest prints_by
top-none k m = sym (largest-same (applied_of k m) (map (λ s. 0) m.lines) (zeros m.lines))
  where
    zeros : (l : List Connection) → Each (λ x. x ≤ applied_of k m) (map (λ s. 0) l)
    zeros [] = tt
    zeros (s ∷ ss) = (omega arith, zeros ss)

-- ---- refused or not

fits-none : (U : List Key) (m : Market) → Going U m [] → Fits m []
unfolding prints_by print_keys print_pairs
fits-none U m g = record {
  rooms = tt;
  log_fits = λ z. absurd (let q = far_none U m g in omega arith);
  keys_fit = λ z. absurd (omega arith);
  pairs_fit = λ z. absurd (omega arith);
  counts_fit = λ k c z. absurd (omega arith);
}

fits-step : (U : List Key) (m : Market) (x : Call) (xs : List Call) (m' : Market) (out : List Applied) → Next U m x xs m' out → end m'.log ≤ farthest m' (counting xs) → end m.log ≤ end m'.log
    → Fits m' xs → Fits m (x ∷ xs)
fits-step U m x xs m' out n le le₀ f =
    let p = n.prints in
    let l = n.log in
    let fa = l.far in
    let ba = l.base in
    let it = l.items in
    record {
      rooms = (n.room, subst (λ z. Each (λ y. ltb (room_of y) (room_needed z) ≡ false) xs) n.limits f.rooms);
      log_fits = λ z. log (either (ltb (end m'.log) (farthest m' (counting xs)))) z;
      keys_fit = λ z. rows (length m.prints.key_rows) (length m'.prints.key_rows) (new_keys m (x ∷ xs)) (new_keys m' xs) m.limits.C p.key_row p.key_fits
          (subst (λ y. 0 < new_keys m' xs → length m'.prints.key_rows + new_keys m' xs ≤ y.C) n.limits f.keys_fit) z;
      pairs_fit = λ z. rows (length m.prints.count_rows) (length m'.prints.count_rows) (new_pairs m (x ∷ xs)) (new_pairs m' xs) m.limits.D p.pair_row p.pair_fits
          (subst (λ y. 0 < new_pairs m' xs → length m'.prints.count_rows + new_pairs m' xs ≤ y.D) n.limits f.pairs_fit) z;
      counts_fit = λ k c z. rows (delivered_of k c m) (delivered_of k c m') (prints_by k c (x ∷ xs)) (prints_by k c xs) (2 ^ 32 - 1) (p.deliveries k c) (p.counts_fit k c) (f.counts_fit k c) z;
    }
  where
    rows : (u v r s lim : ℕ) → v + s ≡ u + r → (u < v → v ≤ lim) → (0 < s → v + s ≤ lim) → 0 < r → u + r ≤ lim
    rows u v r zero lim e h k z = let q = h (omega arith) in omega arith
    rows u v r (suc s) lim e h k z = let q = k (omega arith) in omega arith

    log : (ltb (end m'.log) (farthest m' (counting xs)) ≡ true) ⊎ (ltb (end m'.log) (farthest m' (counting xs)) ≡ false) → end m.log < farthest m (counting (x ∷ xs))
        → (farthest m (counting (x ∷ xs)) - m.log.base + item_count m.lines ≤ m.limits.G) × (farthest m (counting (x ∷ xs)) + item_count m.lines ≤ 2 ^ 64 - 1)
    log (inl q) z =
        let lt : end m'.log < farthest m' (counting xs) = ltb-true q in
        let h : (farthest m' (counting xs) - m'.log.base + item_count m'.lines ≤ m.limits.G) × (farthest m' (counting xs) + item_count m'.lines ≤ 2 ^ 64 - 1) =
        subst (λ y. (farthest m' (counting xs) - m'.log.base + item_count m'.lines ≤ y.G) × (farthest m' (counting xs) + item_count m'.lines ≤ 2 ^ 64 - 1)) n.limits (f.log_fits lt) in
        let fa = n.log.far in let ba = n.log.base in let it = n.log.items in let h₀ = h.0 in let h₁ = h.1 in
        (omega arith, omega arith)
    log (inr q) z =
        let ge : farthest m' (counting xs) ≤ end m'.log = ltb-false q in
        let fa = n.log.far in
        let h = n.log.fitted (omega arith) in let h₀ = h.0 in let h₁ = h.1 in
        (omega arith, omega arith)

fits-back : (U : List Key) (m : Market) (x : Call) (xs : List Call) (m' : Market) (out : List Applied) → Next U m x xs m' out → end m.log ≤ end m'.log
    → Fits m (x ∷ xs) → Fits m' xs
fits-back U m x xs m' out n le f =
    let p = n.prints in
    let l = n.log in
    let fa = l.far in
    let ba = l.base in
    let it = l.items in
    record {
      rooms = subst (λ z. Each (λ y. ltb (room_of y) (room_needed z) ≡ false) xs) (sym n.limits) f.rooms.1;
      log_fits = λ z. let h = f.log_fits (omega arith) in let h₀ = h.0 in let h₁ = h.1 in let g = ap (λ (y : Limits). y.G) n.limits in (omega arith, omega arith);
      keys_fit = λ z. let a = p.key_le in let b = p.key_row in let h = f.keys_fit (omega arith) in let g = ap (λ (y : Limits). y.C) n.limits in omega arith;
      pairs_fit = λ z. let a = p.pair_le in let b = p.pair_row in let h = f.pairs_fit (omega arith) in let g = ap (λ (y : Limits). y.D) n.limits in omega arith;
      counts_fit = λ k c z. let a = p.counts_le k c in let b = p.deliveries k c in let h = f.counts_fit k c (omega arith) in omega arith;
    }

end-grows : (U : List Key) (m : Market) (x : Call) (xs : List Call) (m' : Market) (out : List Applied) (n : Next U m x xs m' out) → end m.log + length n.log.newer ≡ end m'.log
end-grows U m x xs m' out n =
    let a : length (keys m'.log) ≡ length (keys m.log) + length n.log.newer = ap length n.log.grew ∙ length-append (keys m.log) n.log.newer in
    let b = length-map m.log.entries (λ e. e.0) in
    let c = length-map m'.log.entries (λ e. e.0) in
    let d = n.log.base in omega arith

far-end : (m : Market) (f : ℕ → ℕ) → end m.log ≤ farthest m f
unfolding farthest
far-end m f = go (map (λ s. reach (f s.conn) s.line) m.lines)
  where
    go : (l : List ℕ) → end m.log ≤ largest (end m.log) l
    go [] = omega arith
    go (y ∷ ys) = let h = go ys in omega arith

pub fits-of : (U : List Key) (xs : List Call) (m : Market) → Going U m xs → Unrefused m xs → Fits m xs
unfolding Unrefused
fits-of U [] m g u = fits-none U m g
fits-of U (x ∷ xs) m g u = go (step x m) (judged U m x xs g) u (λ m' g' u'. fits-of U xs m' g' u')
  where
    go : (o : Outcome) → Judged U m x xs o → Passed o (λ m'. Unrefused m' xs) → ((m' : Market) → Going U m' xs → Unrefused m' xs → Fits m' xs) → Fits m (x ∷ xs)
    go (refused n) j p ih = absurd p
    go (did a rs w) j p ih = fits-step U m x xs w.market w.out j.1 (far-end w.market (counting xs))
        (let z = end-grows U m x xs w.market w.out j.1 in omega arith) (ih w.market (going_next U m x xs w.market w.out g j.1) p)

pub unrefused-of : (U : List Key) (xs : List Call) (m : Market) → Going U m xs → Fits m xs → Unrefused m xs
unfolding Unrefused
unrefused-of U [] m g f = tt
unrefused-of U (x ∷ xs) m g f = go (step x m) (judged U m x xs g) (λ m' g' f'. unrefused-of U xs m' g' f')
  where
    go : (o : Outcome) → Judged U m x xs o → ((m' : Market) → Going U m' xs → Fits m' xs → Unrefused m' xs) → Passed o (λ m'. Unrefused m' xs)
    go (refused n) j ih = j f
    go (did a rs w) j ih = ih w.market (going_next U m x xs w.market w.out g j.1)
        (fits-back U m x xs w.market w.out j.1 (let z = end-grows U m x xs w.market w.out j.1 in omega arith) f)

-- ---- how a run ends

pub record Closed (U : List Key) (m : Market) (xs : List Call) (m' : Market) (out : List Applied) (said : List Said) : Type 0 where
  pub limits : m'.limits ≡ m.limits
  pub lines : m'.lines ≡ map (advanced (counting xs)) m.lines
  pub base : m'.log.base ≡ m.log.base
  pub at_end : end m'.log ≡ farthest m (counting xs)
  pub beyond : List Key
  pub begins : U ≡ keys m'.log ++ beyond
  pub newer : List Key
  pub grew : keys m'.log ≡ keys m.log ++ newer
  pub once : books out ≡ numbered (end m.log) newer
  pub applied : (k : Key) → applied_of k m' ≡ highest k m (printing k xs)
  pub rise : (k : Key) → applied_of k m + copies k out ≡ applied_of k m'
  pub answered : Each ApplyOrDuplicate said
  pub delivered : (k : Key) (c : ℕ) → delivered_of k c m' ≡ delivered_of k c m + prints_by k c xs
  pub key_has : (k : Key) → seen_key m' k ≡ (seen_key m k || is_printed m (printing k xs))
  pub pair_has : (k : Key) (c : ℕ) → seen_pair m' (k, c) ≡ (seen_pair m (k, c) || ltb 0 (prints_by k c xs))
  pub sent : Each (Sent m xs) out
  pub log : m'.log ≡ log_by xs said m.log
  pub touched : (k : Key) → touched_of k m' ≡ last_touch k xs (touched_of k m)

copies-append : (k : Key) (a b : List Applied) → copies k (a ++ b) ≡ copies k a + copies k b
unfolding copies
copies-append k [] b = omega arith
copies-append k (r ∷ rs) b = let h = copies-append k rs b in omega arith

closed_none : (U : List Key) (m : Market) → Going U m [] → Closed U m [] m [] []
unfolding books numbered copies prints_by log_by last_touch
closed_none U m g = record {
  limits = refl;
  lines = lines_none m.lines;
  base = refl;
  at_end = sym (far_none U m g);
  beyond = g.beyond;
  begins = g.begins;
  newer = [];
  grew = sym (append-nil (keys m.log));
  once = refl;
  applied = λ k. top-none k m;
  rise = λ k. omega arith;
  answered = tt;
  delivered = λ k c. omega arith;
  key_has = λ k. sym (ap (λ (b : Bool). seen_key m k || b) (any_none m.lines) ∙ or-false (seen_key m k));
  pair_has = λ k c. sym (or-false (seen_pair m (k, c)));
  sent = tt;
  log = refl;
  touched = λ k. refl;
}

closed-step : (U : List Key) (m : Market) (x : Call) (xs : List Call) (m₁ m₂ : Market) (o₁ o₂ : List Applied) (s₁ : Said) (s₂ : List Said)
    → Goes m x → ApplyOrDuplicate s₁ → Next U m x xs m₁ o₁ → Stamped m x s₁ m₁ → Closed U m₁ xs m₂ o₂ s₂ → Closed U m (x ∷ xs) m₂ (o₁ ++ o₂) (s₁ ∷ s₂)
unfolding log_by last_touch
closed-step U m x xs m₁ m₂ o₁ o₂ s₁ s₂ goes s n t c =
    let l = n.log in record {
      limits = c.limits ∙ n.limits;
      lines = c.lines ∙ l.lines;
      base = c.base ∙ l.base;
      at_end = c.at_end ∙ l.far;
      beyond = c.beyond;
      begins = c.begins;
      newer = l.newer ++ c.newer;
      grew = c.grew ∙ ap (λ (o : List Key). o ++ c.newer) l.grew ∙ append_assoc (keys m.log) l.newer c.newer;
      once = books-append o₁ o₂ ∙ ap (λ (o : List (ℕ × Key)). o ++ books o₂) l.once
          ∙ ap (λ (o : List (ℕ × Key)). numbered (end m.log) l.newer ++ o) (c.once ∙ ap (λ (e : ℕ). numbered e c.newer) (sym (end-grows U m x xs m₁ o₁ n)))
          ∙ sym (numbered-append (end m.log) l.newer c.newer);
      applied = λ k. c.applied k ∙ n.prints.tops k;
      rise = λ k. let a = n.prints.rise k in let b = c.rise k in let d = copies-append k o₁ o₂ in omega arith;
      answered = (s, c.answered);
      delivered = λ k d. c.delivered k d ∙ n.prints.deliveries k d;
      key_has = λ k. c.key_has k ∙ n.prints.key_has k;
      pair_has = λ k d. c.pair_has k d ∙ n.prints.pair_has k d;
      sent = each_append (Sent m (x ∷ xs)) o₁ o₂ n.sent
          (each-imp (Sent m₁ xs) (Sent m (x ∷ xs)) (sent-later m m₁ x xs goes l.goers l.lines) o₂ c.sent);
      log = c.log ∙ ap (log_by xs s₂) t.log;
      touched = λ k. c.touched k ∙ ap (last_touch k xs) (t.touched k);
    }

pub closed_of : (U : List Key) (xs : List Call) (m : Market) → Going U m xs → Unrefused m xs → Closed U m xs (after m xs) (records m xs) (answers m xs)
unfolding Unrefused after records answers
closed_of U [] m g u = closed_none U m g
closed_of U (x ∷ xs) m g u = go (step x m) (judged U m x xs g) u (λ m' g' u'. closed_of U xs m' g' u')
  where
    go : (o : Outcome) → Judged U m x xs o → Passed o (λ m'. Unrefused m' xs)
        → ((m' : Market) → Going U m' xs → Unrefused m' xs → Closed U m' xs (after m' xs) (records m' xs) (answers m' xs))
        → Closed U m (x ∷ xs) (after (market_after o m) xs) (records_of o ++ records (market_after o m) xs) (said_by o ∷ answers (market_after o m) xs)
    go (refused n) j p ih = absurd p
    go (did a rs w) j p ih = closed-step U m x xs w.market (after w.market xs) w.out (records w.market xs)
        (said_by (did a rs w)) (answers w.market xs) g.theirs.0 j.0 j.1 j.2 (ih w.market (going_next U m x xs w.market w.out g j.1) p)
