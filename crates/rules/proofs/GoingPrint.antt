-- Connections in line go on: a print.
use mathlib.Core.Path.{◌≡◌, refl, sym, ◌∙◌, ap, fun_ext}
use mathlib.Core.Logic.{inl, inr}
use mathlib.Core.List.{List, [], ◌∷◌, map}
use mathlib.Core.Bool.{Bool, true, false, not, ◌&&◌, ◌||◌, cond}
use Prim.Native.Nat.{ℕ, suc, ◌+◌, ◌-◌, ◌^◌, ◌≤◌, ◌<◌, max}
use native.Mathlib.Omega.{arith}
use lib.Dec.{leb, ltb, eqb}
use lib.ListN.{length}
use Rattle.rules.specs.declared.Applied.{Applied}
use Rattle.rules.specs.Lists.{any, largest}
use Rattle.rules.specs.Quantities.{Key, max_count, print_out, same}
use Rattle.rules.specs.Log.{keys}
use Rattle.rules.specs.Prints.{KeyRow, applied_in, counted, deliver, delivered_in, of_key, of_pair, set_applied, touch}
use Rattle.rules.specs.Lines.{Connection, Failed, InLine, Line, Market, Pending, Waiting, conn_at, is_failed, is_in_line, line_of, nobody, with_prints, line_for}
use Rattle.rules.specs.Calls.{Outcome, ignored, just, print, print_counted, refuse}
use Rattle.rules.specs.Refusals.{Call, Print, short, step}
use Rattle.rules.specs.Demand.{applied_of, books, copies, delivered_of, events_of, farthest, highest, is_printed, numbered, prints_by}
use Rattle.rules.proofs.Tests.{by_cond, eqb-other, eqb_same, ff≢tt, leb-false, leb-true, lt-leb, lt-ltb, ltb-false, or-false-left, or-false-right, or-moved}
use Rattle.rules.proofs.ListLaws.{any_at, append-nil}
use Rattle.rules.proofs.Order.{same-itself, same_true, same_pair, same_pair-itself, same_pair-true}
use Rattle.rules.proofs.Tables.{news, news-step}
use Rattle.rules.proofs.PrintLaws.{deliver-any, deliver-delivered, deliver-length, set_applied-any, set_applied-applied, set_applied-length, set_applied-touched, touch-any, touch-applied, touch-length, touch-touched}
use Rattle.rules.proofs.Invariant.{present}
use Rattle.rules.proofs.History.{conn-of}
use Rattle.rules.proofs.Still.{largest-shift}
use Rattle.rules.proofs.SentCalls.{sent-print}
use Rattle.rules.proofs.Going.{Fits, Going, Judged, Moved, Printed, print_keys, print_pairs, printing, refuse-judged, seen_key, seen_pair}

-- ---- a print

module _ (U : List Key) (m : Market) (c : ℕ) (k : Key) (msg now room : ℕ) (xs : List Call) (g : Going U m (Print c k msg now room ∷ xs))
    (n : ℕ) (a b : Bool) (e : line_for c m ≡ InLine n a b) where
  x : Call
  x = Print c k msg now room

  d : ℕ
  d = suc (delivered_of k c m)

  M : List KeyRow → Market
  M cs = with_prints (record { key_rows = cs; count_rows = deliver k c m.prints.count_rows }) m

  moved_on : (cs : List KeyRow) (out : List Applied) → books out ≡ [] → Moved U m x xs (M cs) out
  unfolding x M events_of farthest numbered
  moved_on cs out h = record {
    rises = g.rises;
    goers = λ z. refl;
    calm = g.calm;
    beyond = g.beyond;
    begins = g.begins;
    lines = refl;
    far = refl;
    base = refl;
    items = refl;
    newer = [];
    grew = sym (append-nil (keys m.log));
    once = h;
    fitted = λ z. absurd (omega arith);
  }

  delivered-on : (cs : List KeyRow) (j : Key) (f : ℕ) → delivered_of j f (M cs) ≡ cond (same k j && eqb c f) d (delivered_of j f m)
  unfolding M d
  delivered-on cs j f = deliver-delivered k c m.prints.count_rows j f

  prints-on : (j : Key) (f : ℕ) → prints_by j f (x ∷ xs) ≡ cond (same k j && eqb c f) (suc (prints_by j f xs)) (prints_by j f xs)
  unfolding x prints_by
  prints-on j f = refl

  more : (b : Bool) (p : ℕ) → ltb 0 (cond b (suc p) p) ≡ (b || ltb 0 p)
  more true p = lt-ltb 0 (suc p) (omega arith)
  more false p = refl

  -- the key is printed here if this is a print of it, or one that comes behind
  key_here : (j : Key) → is_printed m (printing j (x ∷ xs)) ≡ (same k j || is_printed m (printing j xs))
  key_here j = go (same k j) refl
    where
      F : ℕ → Bool
      F f = ltb 0 (prints_by j f (x ∷ xs))

      is : (f : ℕ) → F f ≡ (same k j && eqb c f || ltb 0 (prints_by j f xs))
      is f = ap (ltb 0) (prints-on j f) ∙ more (same k j && eqb c f) (prints_by j f xs)

      i : ℕ
      i = line_of c m

      go : (b : Bool) → same k j ≡ b → any (λ s. F s.conn) m.lines ≡ (b || is_printed m (printing j xs))
      go true z = any_at (λ s. F s.conn) m.lines i nobody (present m.lines (line_of c m) (ap is_failed e))
          (ap F (conn-of c m (ap is_failed e)) ∙ is c ∙ ap (λ (y : Bool). y && eqb c c || ltb 0 (prints_by j c xs)) z
          ∙ ap (λ (y : Bool). y || ltb 0 (prints_by j c xs)) (eqb_same c))
      go false z = ap (λ (y : ℕ → Bool). any (λ s. y s.conn) m.lines)
          (fun_ext (λ f. is f ∙ ap (λ (y : Bool). y && eqb c f || ltb 0 (prints_by j f xs)) z))

  pair-has : (cs : List KeyRow) (j : Key) (f : ℕ) → (seen_pair (M cs) (j, f) || ltb 0 (prints_by j f xs)) ≡ (seen_pair m (j, f) || ltb 0 (prints_by j f (x ∷ xs)))
  unfolding M
  pair-has cs j f =
      ap (λ (y : Bool). y || ltb 0 (prints_by j f xs)) (deliver-any k c m.prints.count_rows (j, f))
      ∙ or-moved (same_pair (k, c) (j, f)) (seen_pair m (j, f)) (ltb 0 (prints_by j f xs))
      ∙ ap (λ (y : Bool). seen_pair m (j, f) || y) (sym (ap (ltb 0) (prints-on j f) ∙ more (same k j && eqb c f) (prints_by j f xs)))

  counts-on : (cs : List KeyRow) (j : Key) (f : ℕ) → delivered_of j f (M cs) + prints_by j f xs ≡ delivered_of j f m + prints_by j f (x ∷ xs)
  unfolding d
  counts-on cs j f = go (same k j && eqb c f) refl (delivered-on cs j f) (prints-on j f)
    where
      go : (b : Bool) → same_pair (k, c) (j, f) ≡ b → delivered_of j f (M cs) ≡ cond b d (delivered_of j f m) → prints_by j f (x ∷ xs) ≡ cond b (suc (prints_by j f xs)) (prints_by j f xs)
          → delivered_of j f (M cs) + prints_by j f xs ≡ delivered_of j f m + prints_by j f (x ∷ xs)
      go true p q r = let z : delivered_of k c m ≡ delivered_of j f m = ap (λ (y : Key × ℕ). delivered_of y.0 y.1 m) (same_pair-true (k, c) (j, f) p) in omega arith
      go false p q r = omega arith

  counts-le : (cs : List KeyRow) (j : Key) (f : ℕ) → delivered_of j f m ≤ delivered_of j f (M cs)
  unfolding d
  counts-le cs j f = go (same k j && eqb c f) refl (delivered-on cs j f)
    where
      go : (b : Bool) → same_pair (k, c) (j, f) ≡ b → delivered_of j f (M cs) ≡ cond b d (delivered_of j f m) → delivered_of j f m ≤ delivered_of j f (M cs)
      go true p q = let z : delivered_of k c m ≡ delivered_of j f m = ap (λ (y : Key × ℕ). delivered_of y.0 y.1 m) (same_pair-true (k, c) (j, f) p) in omega arith
      go false p q = omega arith

  counts-fit : (cs : List KeyRow) → d ≤ 2 ^ 32 - 1 → (j : Key) (f : ℕ) → delivered_of j f m < delivered_of j f (M cs) → delivered_of j f (M cs) ≤ 2 ^ 32 - 1
  counts-fit cs h j f = go (same k j && eqb c f) (delivered-on cs j f)
    where
      go : (b : Bool) → delivered_of j f (M cs) ≡ cond b d (delivered_of j f m) → delivered_of j f m < delivered_of j f (M cs) → delivered_of j f (M cs) ≤ 2 ^ 32 - 1
      go true q lt = omega arith
      go false q lt = absurd (omega arith)

  module _ (cs : List KeyRow) (applied : (j : Key) → applied_in j cs ≡ cond (same k j) (max (applied_of k m) d) (applied_of j m)) where
    tops-on : (j : Key) → highest j (M cs) (printing j xs) ≡ highest j m (printing j (x ∷ xs))
    unfolding highest d M
    tops-on j = go (same k j) refl
      where
        F : Connection → ℕ
        F s = cond (ltb 0 (prints_by j s.conn (x ∷ xs))) (delivered_of j s.conn m + prints_by j s.conn (x ∷ xs)) 0

        G : Connection → ℕ
        G s = cond (ltb 0 (prints_by j s.conn xs)) (delivered_of j s.conn (M cs) + prints_by j s.conn xs) 0

        off : (f : ℕ) → (same k j && eqb c f) ≡ false → ◌≡◌ {A = ℕ} (cond (ltb 0 (prints_by j f (x ∷ xs))) (delivered_of j f m + prints_by j f (x ∷ xs)) 0) (cond (ltb 0 (prints_by j f xs)) (delivered_of j f (M cs) + prints_by j f xs) 0)
        off f z =
            let p : prints_by j f (x ∷ xs) ≡ prints_by j f xs = prints-on j f ∙ ap (λ (y : Bool). cond y (suc (prints_by j f xs)) (prints_by j f xs)) z in
            let q : delivered_of j f (M cs) ≡ delivered_of j f m = delivered-on cs j f ∙ ap (λ (y : Bool). cond y d (delivered_of j f m)) z in
            rw (p, q) refl

        i : ℕ
        i = line_of c m

        lt : i < length m.lines
        lt = present m.lines (line_of c m) (ap is_failed e)

        ci : (conn_at i m).conn ≡ c
        ci = conn-of c m (ap is_failed e)

        both : same k j ≡ true → (same k j && eqb c (conn_at i m).conn) ≡ true
        both z = rw (z, ci) (eqb_same c)

        shift : same k j ≡ true → max d (G (conn_at i m)) ≡ F (conn_at i m)
        shift z =
            let f = (conn_at i m).conn in
            let p : prints_by j f (x ∷ xs) ≡ suc (prints_by j f xs) = prints-on j f ∙ ap (λ (y : Bool). cond y (suc (prints_by j f xs)) (prints_by j f xs)) (both z) in
            let q : delivered_of j f (M cs) ≡ d = delivered-on cs j f ∙ ap (λ (y : Bool). cond y d (delivered_of j f m)) (both z) in
            let r : delivered_of k c m ≡ delivered_of j f m = ap (λ (y : Key × ℕ). delivered_of y.0 y.1 m) (same_pair-true (k, c) (j, f) (both z)) in
            let t : F (conn_at i m) ≡ delivered_of j f m + prints_by j f (x ∷ xs) = ap (λ (y : Bool). cond y (delivered_of j f m + prints_by j f (x ∷ xs)) 0) (lt-ltb 0 (prints_by j f (x ∷ xs)) (omega arith)) in
            by_cond (λ (y : ℕ). max d y ≡ F (conn_at i m)) (ltb 0 (prints_by j f xs)) (λ y. omega arith) (λ y. let w : prints_by j f xs ≤ 0 = ltb-false y in omega arith)

        go : (b : Bool) → same k j ≡ b → largest (applied_in j cs) (map G m.lines) ≡ largest (applied_of j m) (map F m.lines)
        go true z =
            let s : applied_in j cs ≡ max (applied_of j m) d =
            applied j ∙ ap (λ (y : Bool). cond y (max (applied_of k m) d) (applied_of j m)) z ∙ ap (λ (y : Key). max (applied_of y m) d) (same_true k j z) in
            ap (λ (y : ℕ). largest y (map G m.lines)) s
            ∙ largest-shift (applied_of j m) d F G m.lines i g.rises lt (shift z)
            (λ y ne. off y.conn (rw (eqb-other (λ (t : c ≡ y.conn). ne (sym t ∙ sym ci))) (nothing (same k j))))
          where
            nothing : (b : Bool) → (b && false) ≡ false
            nothing true = refl
            nothing false = refl
        go false z =
            let s : applied_in j cs ≡ applied_of j m = applied j ∙ ap (λ (y : Bool). cond y (max (applied_of k m) d) (applied_of j m)) z in
            let t : G ≡ F = fun_ext (λ y. sym (off y.conn (ap (λ (w : Bool). w && eqb c y.conn) z))) in
            ap (λ (y : ℕ). largest y (map G m.lines)) s ∙ ap (λ (y : Connection → ℕ). largest (applied_of j m) (map y m.lines)) t

    module _ (any-cs : (j : Key) → any (of_key j) cs ≡ (same k j || any (of_key j) m.prints.key_rows))
        (length-cs : length cs ≡ cond (any (of_key k) m.prints.key_rows) (length m.prints.key_rows) (suc (length m.prints.key_rows)))
        (t₇ : (not (any (of_key k) m.prints.key_rows) && leb m.limits.C (length m.prints.key_rows)
        || not (any (of_pair k c) m.prints.count_rows) && leb m.limits.D (length m.prints.count_rows)) ≡ false)
        (d-fits : d ≤ 2 ^ 32 - 1) where
      key_has_lem : (j : Key) → (seen_key (M cs) j || is_printed (M cs) (printing j xs)) ≡ (seen_key m j || is_printed m (printing j (x ∷ xs)))
      unfolding M
      key_has_lem j =
          ap (λ (y : Bool). y || is_printed m (printing j xs)) (any-cs j)
          ∙ or-moved (same k j) (seen_key m j) (is_printed m (printing j xs)) ∙ ap (λ (y : Bool). seen_key m j || y) (sym (key_here j))

      row-le : (b : Bool) (u v : ℕ) → u ≡ cond b v (suc v) → v ≤ u
      row-le true u v q = omega arith
      row-le false u v q = omega arith

      row_fits : (b : Bool) (u v lim : ℕ) → u ≡ cond b v (suc v) → (not b && leb lim v) ≡ false → v < u → u ≤ lim
      row_fits true u v lim q z lt = absurd (omega arith)
      row_fits false u v lim q z lt = let w : v < lim = leb-false z in omega arith

      printed-on : (out : List Applied) → ((j : Key) → applied_of j m + copies j out ≡ applied_in j cs) → Printed m x xs (M cs) out
      unfolding x M print_keys print_pairs
      printed-on out rise =
          let C₇ = not (any (of_key k) m.prints.key_rows) && leb m.limits.C (length m.prints.key_rows) in
          let D₇ = not (any (of_pair k c) m.prints.count_rows) && leb m.limits.D (length m.prints.count_rows) in
          let bl = deliver-length k c m.prints.count_rows in record {
            tops = tops-on;
            rise = rise;
            deliveries = counts-on cs;
            counts_le = counts-le cs;
            counts_fit = counts-fit cs d-fits;
            key_row = news-step same k (print_keys xs) (seen_key m) (seen_key (M cs)) (length m.prints.key_rows) (length cs) same_true any-cs length-cs;
            key_le = row-le (any (of_key k) m.prints.key_rows) (length cs) (length m.prints.key_rows) length-cs;
            key_fits = row_fits (any (of_key k) m.prints.key_rows) (length cs) (length m.prints.key_rows) m.limits.C length-cs (or-false-left C₇ D₇ t₇);
            pair_row = news-step same_pair (k, c) (print_pairs xs) (seen_pair m) (seen_pair (M cs)) (length m.prints.count_rows) (length (deliver k c m.prints.count_rows)) same_pair-true (λ q. deliver-any k c m.prints.count_rows q) bl;
            pair_le = row-le (any (of_pair k c) m.prints.count_rows) (length (deliver k c m.prints.count_rows)) (length m.prints.count_rows) bl;
            pair_fits = row_fits (any (of_pair k c) m.prints.count_rows) (length (deliver k c m.prints.count_rows)) (length m.prints.count_rows) m.limits.D bl (or-false-right C₇ D₇ t₇);
            key_has = key_has_lem;
            pair_has = pair-has cs;
          }

  -- delivered at most applied: a duplicate
  touched-on : d ≤ applied_of k m → (j : Key) → applied_in j (touch k now m.prints.key_rows) ≡ cond (same k j) (max (applied_of k m) d) (applied_of j m)
  touched-on le j = touch-applied k now m.prints.key_rows j ∙ go (same k j) refl
    where
      go : (b : Bool) → same k j ≡ b → applied_of j m ≡ cond b (max (applied_of k m) d) (applied_of j m)
      go true z = let q : applied_of k m ≡ applied_of j m = ap (λ (y : Key). applied_of y m) (same_true k j z) in omega arith
      go false z = refl

  touched-any : any (of_key k) (touch k now m.prints.key_rows) ≡ true
  touched-any = touch-any k now m.prints.key_rows k ∙ ap (λ (b : Bool). b || any (of_key k) m.prints.key_rows) (same-itself k)

  raised-on : applied_of k m < d → (j : Key) → applied_in j (set_applied k d (touch k now m.prints.key_rows)) ≡ cond (same k j) (max (applied_of k m) d) (applied_of j m)
  raised-on lt j = set_applied-applied k d (touch k now m.prints.key_rows) j touched-any ∙ go (same k j) (touch-applied k now m.prints.key_rows j)
    where
      go : (b : Bool) → applied_in j (touch k now m.prints.key_rows) ≡ applied_of j m → cond b d (applied_in j (touch k now m.prints.key_rows)) ≡ cond b (max (applied_of k m) d) (applied_of j m)
      go true z = omega arith
      go false z = z

  judged-in-line : short room m ≡ false
      → (not (any (of_key k) m.prints.key_rows) && leb m.limits.C (length m.prints.key_rows)
      || not (any (of_pair k c) m.prints.count_rows) && leb m.limits.D (length m.prints.count_rows)) ≡ false
      → d ≤ 2 ^ 32 - 1
      → Judged U m x xs (print_counted (line_of c m) c k msg d (applied_of k m) (M (touch k now m.prints.key_rows)) (InLine n a b))
  unfolding print_counted x M books copies
  judged-in-line rm t₇ df =
      let cs = touch k now m.prints.key_rows in
      let cs' = set_applied k d cs in
      by_cond (Judged U m x xs) (leb d (applied_of k m))
      (λ q. let le : d ≤ applied_of k m = leb-true q in (
        inr refl,
        record {
          limits = refl;
          room = rm;
          log = moved_on cs [] refl;
          prints = printed-on cs (touched-on le) (λ j. touch-any k now m.prints.key_rows j) (touch-length k now m.prints.key_rows) t₇ df []
              (λ j. let z = touch-applied k now m.prints.key_rows j in omega arith);
          sent = tt;
        },
        record { log = refl; touched = touch-touched k now m.prints.key_rows },
      ))
      (λ q. let lt : applied_of k m < d = leb-false q in
      let out : List Applied = print_out c k msg (d - applied_of k m) ∷ [] in (
        inl refl,
        record {
          limits = refl;
          room = rm;
          log = moved_on cs' out refl;
          prints = printed-on cs' (raised-on lt) (λ j. set_applied-any k d cs j ∙ touch-any k now m.prints.key_rows j) (set_applied-length k d cs ∙ touch-length k now m.prints.key_rows) t₇ df out
              (λ j. sym (raised-on lt j ∙ go lt j (same k j) refl));
          sent = (sent-print m c k msg now room xs (d - applied_of k m) (omega arith), tt);
        },
        record { log = refl; touched = λ j. set_applied-touched k d cs j touched-any ∙ touch-touched k now m.prints.key_rows j },
      ))
    where
      go : applied_of k m < d → (j : Key) (b : Bool) → same k j ≡ b → cond b (max (applied_of k m) d) (applied_of j m) ≡ applied_of j m + (cond b (d - applied_of k m) 0 + 0)
      go lt j true z = let q : applied_of k m ≡ applied_of j m = ap (λ (y : Key). applied_of y m) (same_true k j z) in omega arith
      go lt j false z = omega arith

  fits₇ : Fits m (x ∷ xs) → (not (any (of_key k) m.prints.key_rows) && leb m.limits.C (length m.prints.key_rows)
      || not (any (of_pair k c) m.prints.count_rows) && leb m.limits.D (length m.prints.count_rows)) ≡ false
  unfolding x print_keys print_pairs
  fits₇ f = or (half (any (of_key k) m.prints.key_rows) (length m.prints.key_rows) m.limits.C (news same (seen_key m) (print_keys xs)) (news same (λ j. same k j || seen_key m j) (print_keys xs)) f.keys_fit)
      (half (any (of_pair k c) m.prints.count_rows) (length m.prints.count_rows) m.limits.D (news same_pair (seen_pair m) (print_pairs xs)) (news same_pair (λ j. same_pair (k, c) j || seen_pair m j) (print_pairs xs)) f.pairs_fit)
    where
      or : {a b : Bool} → a ≡ false → b ≡ false → (a || b) ≡ false
      or p q = rw (p, q) refl

      half : (b : Bool) (l lim u v : ℕ) → (0 < cond b u (suc v) → l + cond b u (suc v) ≤ lim) → (not b && leb lim l) ≡ false
      half true l lim u v h = refl
      half false l lim u v h = lt-leb lim l (let z = h (omega arith) in omega arith)

  fits₈ : Fits m (x ∷ xs) → d ≤ 2 ^ 32 - 1
  unfolding d
  fits₈ f =
      let p : prints_by k c (x ∷ xs) ≡ suc (prints_by k c xs) = prints-on k c ∙ ap (λ (y : Bool). cond y (suc (prints_by k c xs)) (prints_by k c xs)) (same_pair-itself (k, c)) in
      let z = f.counts_fit k c (omega arith) in omega arith

pub print-judged : (U : List Key) (m : Market) (c : ℕ) (k : Key) (msg now room : ℕ) (xs : List Call) → Going U m (Print c k msg now room ∷ xs)
    → Judged U m (Print c k msg now room) xs (step (Print c k msg now room) m)
unfolding step print x d M
print-judged U m c k msg now room xs g =
    let x₀ = Print c k msg now room in
    refuse-judged U m x₀ xs (short room m) 3 (print c k msg now m) (λ f. f.rooms.0)
    (λ rm. go rm (line_for c m) refl g.theirs.0)
  where
    t₇ : Bool
    t₇ = not (any (of_key k) m.prints.key_rows) && leb m.limits.C (length m.prints.key_rows) || not (any (of_pair k c) m.prints.count_rows) && leb m.limits.D (length m.prints.count_rows)

    t₈ : Bool
    t₈ = leb max_count (delivered_in k c m.prints.count_rows)

    rest : Line → Outcome
    rest l = print_counted (line_of c m) c k msg (suc (delivered_in k c m.prints.count_rows)) (applied_in k m.prints.key_rows) (with_prints (counted k c now m.prints) m) l

    go : short room m ≡ false → (l : Line) → line_for c m ≡ l → is_in_line l ≡ true
        → Judged U m (Print c k msg now room) xs (cond (is_failed l) (just ignored m) (refuse t₇ 7 (refuse t₈ 8 (rest l))))
    go rm (Waiting is since) e t = absurd (ff≢tt refl t)
    go rm (Pending is at since) e t = absurd (ff≢tt refl t)
    go rm Failed e t = absurd (ff≢tt refl t)
    go rm (InLine n a b) e t =
        refuse-judged U m (Print c k msg now room) xs t₇ 7 (refuse t₈ 8 (rest (InLine n a b))) (λ f. fits₇ U m c k msg now room xs g n a b e f)
        (λ s₇. refuse-judged U m (Print c k msg now room) xs t₈ 8 (rest (InLine n a b))
        (λ f. lt-leb max_count (delivered_in k c m.prints.count_rows) (fits₈ U m c k msg now room xs g n a b e f))
        (λ s₈. judged-in-line U m c k msg now room xs g n a b e rm s₇ (leb-false s₈)))
