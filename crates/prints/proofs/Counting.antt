-- A print counted: the key touched, then the count of its connection raised.
use Rattle.std.specs.Prelude.{Result, Ok, Err}
use mathlib.Core.Path.{◌≡◌, refl, sym, ◌∙◌, ap, subst, fun_ext}
use mathlib.Core.List.{List, map}
use mathlib.Core.Bool.{Bool, true, false, not, cond}
use Prim.Native.Nat.{ℕ, suc, ◌+◌, ◌*◌, ◌≤◌, ◌<◌}
use native.Mathlib.Nat.{zero-add}
use native.Mathlib.Omega.{arith}
use lib.ListN.{length, set, length-set}
use Rattle.rules.specs.Lists.{amend, insert, Rising}
use Rattle.rules.specs.Quantities.{Key}
use Rattle.rules.specs.Prints.{KeyRow, CountRow, key_before, count_before, of_key, of_pair, delivered_in, touch, deliver, counted}
use Rattle.rules.specs.Sound.{TablesSound}
use Rattle.rules.proofs.Order.{same-itself}
use Rattle.words.proofs.Mapped.{amend-map, insert-map}
use Rattle.rows.specs.declared.Runs.{Runs}
use Rattle.rows.specs.declared.Added.{Added}
use Rattle.rows.specs.Rows.{Row, row, row_at, row_in, alike, Here, Between, Put}
use Rattle.rows.specs.Tables.{Before, size, table_of, Table, Missing, Stands, Grown}
use Rattle.rows.proofs.Moves.{put_last}
use Rattle.rows.proofs.TableLaws.{table_same, hit-amend}
use Rattle.prints.specs.declared.Used.{Used}
use Rattle.prints.specs.declared.Found.{Found}
use Rattle.prints.specs.Area.{key_row, count_row, prints_of, Fits, Free, KeyStands, FoundIn}
use Rattle.prints.specs.Steps.{is_gap, KeyTouched, PairCounted}
use Rattle.prints.proofs.Tables.{prints-eq, keys-table, counts-table, key-stands, pair-stands, delivered-at, delivered-none, has-key, has-pair}

-- ---- the key is touched
module _ (c : ℕ) (u : Runs) (k : Key) (t : ℕ) (w : List ℕ) (s : Table false 0 u w) (b : size u ≤ c) (n : 4 * c ≤ length w) where
  touched : KeyRow → KeyRow
  touched r = record { key = r.key; applied = r.applied; touched = t }

  -- by whether it was there
  touch_is : (p : Result ℕ ℕ) → Stands false 0 u k.0 k.1 0 w p
      → touch k t (map key_row (table_of false 0 u w))
      ≡ cond (not (is_gap p)) (amend (of_key k) touched (map key_row (table_of false 0 u w)))
      (insert key_before (record { key = k; applied = 0; touched = t }) (map key_row (table_of false 0 u w)))
  unfolding touched
  touch_is p h =
      ap
      (λ (b : Bool). cond b (amend (of_key k) touched (map key_row (table_of false 0 u w)))
      (insert key_before (record { key = k; applied = 0; touched = t }) (map key_row (table_of false 0 u w))))
      (key-stands u w s k p h)

  pub touch-there : (i : ℕ) → Here false (row_in 0 w) (size u) k.0 k.1 0 i → KeyTouched c u k t w (set w (4 * i + 3) t) (record { runs = u; at = i })
  unfolding touched
  touch-there i h =
      record {
        table =
            ap (map key_row) (hit-amend false 0 u w s k.0 k.1 0 i h g (λ r. refl) v p)
            ∙ amend-map key_row (of_key k) touched g (λ r. refl) (table_of false 0 u w)
            ∙ sym (touch_is (Ok i) h);
        lies = record { inside = omega (arith, length-set w (4 * i + 3) t, s.lies.inside); short = s.lies.short };
        fits = b;
        here = record { within = h.within; hit = ap (λ (r : Row). alike false r k.0 k.1 0) p.here ∙ h.hit };
        others = λ j l. p.others j (λ e. omega (arith, h.within));
      }
    where
      v : List ℕ
      v = set w (4 * i + 3) t

      g : Row → Row
      g r = row r.a r.b r.c t

      p : Put w v (0 + i) (g (row_in 0 w i))
      p = subst (λ (j : ℕ). Put w v j (g (row_at w j))) (sym (zero-add i)) (put_last w i t (omega (arith, h.within)))

  pub touch-new : (v : List ℕ) (r : Added) (i : ℕ) → Missing false 0 u k.0 k.1 0 w i → size u < c → length v ≡ length w
      → Grown false 0 u (row k.0 k.1 0 t) w v r → KeyTouched c u k t w v r
  unfolding touched
  touch-new v r i m l e g =
      record {
        table =
            ap (map key_row) g.table
            ∙ insert-map key_row key_before (row k.0 k.1 0 t) (table_of false 0 u w)
            ∙ sym (touch_is (Err i) m);
        lies = record { inside = omega (arith, g.more); short = g.short };
        fits = omega (arith, g.more);
        here = record { within = g.within; hit = ap (λ (r : Row). alike false r k.0 k.1 0) g.here ∙ same-itself k };
        others = λ j q. g.above j (omega arith);
      }

-- ---- the copy is counted
module _ (c : ℕ) (u : Runs) (k : Key) (x n : ℕ) (w : List ℕ) (s : Table true c u w)
    (d : n ≡ suc (delivered_in k x (map count_row (table_of true c u w)))) where
  raised : CountRow → CountRow
  raised r = record { key = r.key; conn = r.conn; delivered = suc r.delivered }

  deliver-is : (p : Result ℕ ℕ) → Stands true c u k.0 k.1 x w p
      → deliver k x (map count_row (table_of true c u w))
      ≡ cond (not (is_gap p)) (amend (of_pair k x) raised (map count_row (table_of true c u w)))
      (insert count_before (record { key = k; conn = x; delivered = 1 }) (map count_row (table_of true c u w)))
  unfolding raised
  deliver-is p h =
      ap
      (λ (b : Bool). cond b (amend (of_pair k x) raised (map count_row (table_of true c u w)))
      (insert count_before (record { key = k; conn = x; delivered = 1 }) (map count_row (table_of true c u w))))
      (pair-stands c u w s k x p h)

  pub count-there : (i : ℕ) → Here true (row_in c w) (size u) k.0 k.1 x i → PairCounted c u k x w (set w (4 * (c + i) + 3) n) u
  unfolding raised
  count-there i h =
      record {
        table =
            ap (map count_row) (hit-amend true c u w s k.0 k.1 x i h g (λ r. refl) v p)
            ∙ amend-map count_row (of_pair k x) raised g (λ r. refl) (table_of true c u w)
            ∙ sym (deliver-is (Ok i) h);
        lies = record { inside = omega (arith, length-set w (4 * (c + i) + 3) n, s.lies.inside); short = s.lies.short };
        others = λ j l. p.others j (λ e. omega arith);
      }
    where
      v : List ℕ
      v = set w (4 * (c + i) + 3) n

      g : Row → Row
      g r = row r.a r.b r.c (suc r.d)

      one_more : n ≡ suc (row_in c w i).d
      one_more = d ∙ ap suc (sym (delivered-at c u w s k x i h))

      p : Put w v (c + i) (g (row_in c w i))
      p =
          subst (λ (m : ℕ). Put w v (c + i) (row (row_in c w i).a (row_in c w i).b (row_in c w i).c m)) one_more
          (put_last w (c + i) n (omega (arith, h.within, s.lies.inside)))

  pub count-new : (v : List ℕ) (r : Added) (i : ℕ) → Missing true c u k.0 k.1 x w i → 4 * (c + size u) + 3 < length w → length v ≡ length w
      → Grown true c u (row k.0 k.1 x n) w v r → PairCounted c u k x w v r.runs
  unfolding raised
  count-new v r i m l e g =
      let one : n ≡ 1 = d ∙ ap suc (sym (delivered-none c u w s k x i m)) in
      record {
        table =
            ap (map count_row) g.table
            ∙ insert-map count_row count_before (row k.0 k.1 x n) (table_of true c u w)
            ∙ ap (λ (j : ℕ). insert count_before (record { key = k; conn = x; delivered = j }) (map count_row (table_of true c u w))) one
            ∙ sym (deliver-is (Err i) m);
        lies = record { inside = omega (arith, g.more); short = g.short };
        others = g.below;
      }

-- ---- a table whose rows are as they were
module _ (three : Bool) (b : ℕ) (u : Runs) (w v : List ℕ) (same : (k : ℕ) → b ≤ k → row_at v k ≡ row_at w k) where
  rows_same : (a : ℕ) → b ≤ a → row_in a w ≡ row_in a v
  rows_same a h = fun_ext (λ i. sym (same (a + i) (omega arith)))

  list_same : table_of three b u v ≡ table_of three b u w
  list_same = table_same three b u w v (λ k l m. same k l)

  still-table : length v ≡ length w → Table three b u w → Table three b u v
  still-table e t =
      record {
        lies = record { inside = omega (arith, t.lies.inside); short = t.lies.short };
        rises = subst (Rising (Before three)) (sym list_same) t.rises;
      }

  still-stands : (x y z : ℕ) (p : Result ℕ ℕ) → Stands three b u x y z w p → Stands three b u x y z v p
  still-stands x y z (Ok i) h = subst (λ (f : ℕ → Row). Here three f (size u) x y z i) (rows_same b (omega arith)) h
  still-stands x y z (Err i) m =
      record {
        gap = m.gap;
        old = subst (λ (f : ℕ → Row). Between three f u.old x y z m.gap) (rows_same b (omega arith)) m.old;
        new = subst (λ (f : ℕ → Row). Between three f u.new x y z i) (rows_same (b + u.old) (omega arith)) m.new;
      }

-- ---- first the key, then the pair
module _ (c : ℕ) (w : List ℕ) (u : Used) (k : Key) (x : ℕ) (n : Found) (f : Fits c w u) (s : TablesSound (prints_of c w u)) (h : FoundIn c w u k x n)
    (free : Free c w u k x) where
  key-free : is_gap n.key ≡ true → size u.keys < c
  key-free e = free.for_key (has-key c w u f s k n.key h.key ∙ ap not e)

  pair-free : is_gap n.pair ≡ true → 4 * (c + size u.counts) + 3 < length w
  pair-free e = free.for_pair (has-pair c w u f s k x n.pair h.pair ∙ ap not e)

  pub touch-ready : (Table false 0 u.keys w × ((size u.keys ≤ c) × (4 * c ≤ length w)))
      × (KeyStands w u k n.key × (is_gap n.key ≡ true → size u.keys < c))
  touch-ready = ((keys-table c w u f s, (f.apart, omega (arith, f.counts.inside))), (h.key, key-free))

  module _ {t : ℕ} (v : List ℕ) (r : Added) (a : KeyTouched c u.keys k t w v r) (e : length v ≡ length w) where
    counts_same : map count_row (table_of true c u.counts v) ≡ map count_row (table_of true c u.counts w)
    counts_same = ap (map count_row) (list_same true c u.counts w v a.others)

    pub count-ready : {d m : ℕ} → d ≡ delivered_in k x (prints_of c w u).count_rows → m ≡ suc d
        → Table true c u.counts v
        × (Stands true c u.counts k.0 k.1 x v n.pair × ((is_gap n.pair ≡ true → 4 * (c + size u.counts) + 3 < length v)
        × (m ≡ suc (delivered_in k x (map count_row (table_of true c u.counts v))))))
    unfolding prints_of
    count-ready q z = (
      still-table true c u.counts w v a.others e (counts-table c w u f s),
      (
        still-stands true c u.counts w v a.others k.0 k.1 x n.pair h.pair,
        (
          λ g. let y : 4 * (c + size u.counts) + 3 < length w = pair-free g in omega arith,
          z ∙ ap suc (q ∙ sym (ap (delivered_in k x) counts_same)),
        ),
      ),
    )

    pub deliver-done : {z : ℕ} → t ≡ z → (v' : List ℕ) (m : Runs) → PairCounted c u.counts k x v v' m → length v' ≡ length v
        → (prints_of c v' (record { keys = r.runs; counts = m }) ≡ counted k x z (prints_of c w u))
        × (Fits c v' (record { keys = r.runs; counts = m }) × KeyStands v' (record { keys = r.runs; counts = m }) k (Ok r.at))
    unfolding prints_of
    deliver-done q v' m p e' = (
      prints-eq
          (ap (map key_row) (table_same false 0 r.runs v v' (λ j y z. p.others j (omega (arith, a.fits))))
          ∙ a.table
          ∙ ap (λ (j : ℕ). touch k j (map key_row (table_of false 0 u.keys w))) q)
          (p.table ∙ ap (deliver k x) counts_same),
      (
        record {
          keys = record { inside = omega (arith, a.lies.inside); short = a.lies.short };
          counts = p.lies;
          apart = a.fits;
        },
        record {
          within = a.here.within;
          hit = ap (λ (r : Row). alike false r k.0 k.1 0) (p.others (0 + r.at) (omega (arith, a.here.within, a.fits))) ∙ a.here.hit;
        },
      ),
    )
