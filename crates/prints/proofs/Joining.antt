-- Both tables merged, and expiry by what is then in order.
use mathlib.Core.Path.{◌≡◌, sym, ◌∙◌, ap}
use mathlib.Core.List.{List, map}
use mathlib.Core.Bool.{true, false}
use Prim.Native.Nat.{ℕ, ◌+◌, ◌<◌}
use native.Mathlib.Omega.{arith}
use lib.ListN.{length}
use Rattle.rules.specs.Prints.{expire_prints}
use Rattle.rules.specs.Sound.{TablesSound}
use Rattle.words.specs.Words.{tab}
use Rattle.words.proofs.Tab.{tab-ext, map-tab}
use Rattle.words.proofs.Mapped.{each_map}
use Rattle.rows.specs.Rows.{row_in}
use Rattle.rows.specs.Tables.{before, size, table_of, Table, Joined}
use Rattle.rows.proofs.Merged.{merged-nil}
use Rattle.rows.proofs.TableLaws.{table_same, table-each}
use Rattle.prints.specs.declared.Used.{Used}
use Rattle.prints.specs.Area.{key_row, count_row, key_at, prints_of, Fits}
use Rattle.prints.specs.Steps.{in_order, CountsKept, KeysKept}
use Rattle.prints.proofs.Tables.{prints-eq, counts-table}
use Rattle.prints.proofs.Staying.{stays, expire-rows, expire-same}

module _ (c : ℕ) (w : List ℕ) (u : Used) (f : Fits c w u) (s : TablesSound (prints_of c w u)) where
  -- ---- first the keys, then the counts
  module _ (v : List ℕ) (k : length v ≡ length w) (p : Joined false 0 u.keys w v) where
    counts_same : table_of true c u.counts v ≡ table_of true c u.counts w
    counts_same = table_same true c u.counts w v (λ j l h. p.above j (omega (arith, f.apart)))

    pub counts-ready : Table true c u.counts v
    counts-ready =
        let t = counts-table c w u f s in
        record { lies = record { inside = omega (arith, t.lies.inside); short = t.lies.short }; rises = rw counts_same t.rises }

    pub join-done : (v' : List ℕ) → Joined true c u.counts v v' → in_order c (size u.keys) (size u.counts) v' ≡ prints_of c w u
    unfolding prints_of
    join-done v' q =
        prints-eq
        (sym (map-tab key_row (size u.keys) (row_in 0 v'))
        ∙ ap (map key_row) (tab-ext (size u.keys) (row_in 0 v') (row_in 0 v) (λ j l. q.below (0 + j) (omega (arith, f.apart))) ∙ p.rows))
        (sym (map-tab count_row (size u.counts) (row_in c v')) ∙ ap (map count_row) (q.rows ∙ counts_same))

  -- ---- expiry
  pub expire-none : (t : ℕ) → ((k : ℕ) → k < size u.keys → stays t (key_at w k) ≡ true) → prints_of c w u ≡ expire_prints t (prints_of c w u)
  unfolding prints_of
  expire-none t h =
      expire-same t (prints_of c w u) s
      (each_map key_row (λ r. stays t r ≡ true) (table_of false 0 u.keys w) (table-each false 0 u.keys w (λ r. stays t (key_row r) ≡ true) h))

  module _ (x : List ℕ) (l : length x ≡ length w) (e : in_order c (size u.keys) (size u.counts) x ≡ prints_of c w u) where
    module _ (t : ℕ) (v v' : List ℕ) (r r' : ℕ) (p : CountsKept c (size u.keys) (size u.counts) t x v r') (q : KeysKept (size u.keys) t v v' r)
        (m : length v ≡ length x) (n : length v' ≡ length v) where
      abbrev left : Used
      left = record { keys = record { old = r; new = 0 }; counts = record { old = r'; new = 0 } }

      plain : prints_of c v' left ≡ in_order c r r' v'
      unfolding prints_of table_of
      plain =
          prints-eq
          (ap (map key_row) (merged-nil (before false) (tab r (row_in 0 v'))) ∙ map-tab key_row r (row_in 0 v'))
          (ap (map count_row) (merged-nil (before true) (tab r' (row_in c v'))) ∙ map-tab count_row r' (row_in c v'))

      pub expire-done : (prints_of c v' left ≡ expire_prints t (prints_of c w u)) × Fits c v' left
      expire-done = (
        plain ∙ expire-rows c (size u.keys) (size u.counts) t x v v' r r' f.apart p q ∙ ap (expire_prints t) e,
        record {
          keys = record { inside = omega (arith, q.fewer, f.keys.inside); short = omega arith };
          counts = record { inside = omega (arith, p.fewer, f.counts.inside); short = omega arith };
          apart = omega (arith, q.fewer, f.apart);
        },
      )
