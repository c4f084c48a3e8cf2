-- The parts of the soundness test: of each run, of each table, and of both.
use mathlib.Core.Path.{◌≡◌, subst}
use mathlib.Core.Logic.{⊎_elim}
use mathlib.Core.List.{List, map}
use mathlib.Core.Bool.{Bool, true, false}
use Prim.Native.Nat.{ℕ, ◌+◌, ◌-◌, ◌*◌, ◌≤◌, ◌<◌}
use native.Mathlib.Nat.{zero-add}
use native.Mathlib.Omega.{arith}
use lib.ListN.{get_or}
use Rattle.rules.specs.Lists.{any, Rising}
use Rattle.rules.specs.Quantities.{key, max_count}
use Rattle.rules.specs.Prints.{of_key}
use Rattle.rules.specs.Sound.{TablesSound, KeyLess, CountLess}
use Rattle.words.specs.Words.{tab, Says}
use Rattle.words.proofs.Cases.{below_or, says, says-yes, says-no}
use Rattle.words.proofs.Mapped.{each_map, map_each, rising-map, map-rising}
use Rattle.rows.specs.declared.Runs.{Runs}
use Rattle.rows.specs.Rows.{row_at, row_in, Rises}
use Rattle.rows.specs.Tables.{Before, size, table_of}
use Rattle.rows.proofs.Ordered.{run-rises, run-steps, old-rises, new-rises}
use Rattle.rows.proofs.TableLaws.{table-each, each-table}
use Rattle.prints.specs.declared.Used.{Used}
use Rattle.prints.specs.Area.{key_row, count_row, prints_of}
use Rattle.prints.specs.Steps.{HasKey, KeySound, KeysSound, CountSound, CountsSound}

-- ---- the rows of two runs

-- what holds of both runs holds of the table, and the other way round
module _ (P : ℕ → Type 0) (b : ℕ) (u : Runs) where
  both : ((i : ℕ) → i < u.old → P (b + i)) → ((i : ℕ) → i < u.new → P (b + u.old + i)) → (i : ℕ) → i < size u → P (b + i)
  both f g i h =
      ⊎_elim
      (λ l. f i l)
      (λ l. let q : b + u.old + (i - u.old) ≡ b + i = omega arith in subst P q (g (i - u.old) (omega arith)))
      (below_or i u.old)

  of-new : ((i : ℕ) → i < size u → P (b + i)) → (i : ℕ) → i < u.new → P (b + u.old + i)
  of-new f i h = let q : b + (u.old + i) ≡ b + u.old + i = omega arith in subst P q (f (u.old + i) (omega arith))

-- ---- the table of keys
pub key-done : (b : ℕ) (w : List ℕ) (i : ℕ) (r : Bool) → get_or w (4 * (b + i) + 2) 0 ≤ max_count → Says r (Rises false b w i) → Says r (KeySound b w i)
key-done b w i r m a = says r (KeySound b w i) (λ e. record { rises = says-yes _ a e; small = m }) (λ e s. says-no _ a e s.rises)

module _ (u : Runs) (w : List ℕ) where
  abbrev KeyRun : ℕ → ℕ → Type 0
  KeyRun b n = (i : ℕ) → i < n → KeySound b w i

  behind : KeyRun u.old u.new → KeyRun (0 + u.old) u.new
  behind f = rw (zero-add u.old) f

  pub keys-ready : KeyRun 0 u.old → KeyRun u.old u.new
      → Rising (Before false) (tab u.old (row_in 0 w)) × Rising (Before false) (tab u.new (row_in (0 + u.old) w))
  keys-ready f g = (
    run-rises false 0 u.old w (λ i h. (f i h).rises),
    run-rises false (0 + u.old) u.new w (λ i h. (behind g i h).rises),
  )

  pub keys-done : (r : Bool) → KeyRun 0 u.old → KeyRun u.old u.new → Says r (Rising (Before false) (table_of false 0 u w)) → Says r (KeysSound u w)
  keys-done r f g a =
      says r (KeysSound u w)
      (λ e.
      record {
        rises = says-yes _ a e;
        applied = both (λ i. get_or w (4 * i + 2) 0 ≤ max_count) 0 u (λ i h. (f i h).small) (λ i h. (behind g i h).small);
      })
      (λ e s. says-no _ a e s.rises)

  module _ (s : KeysSound u w) where
    pub keys-old : KeyRun 0 u.old
    keys-old i h = record { rises = run-steps false 0 u.old w (old-rises false 0 u w s.rises) i h; small = s.applied i (omega arith) }

    pub keys-new : KeyRun u.old u.new
    keys-new =
        subst (λ (b : ℕ). KeyRun b u.new) (zero-add u.old)
        (λ i h.
        record {
          rises = run-steps false (0 + u.old) u.new w (new-rises false 0 u w s.rises) i h;
          small = of-new (λ i. get_or w (4 * i + 2) 0 ≤ max_count) 0 u s.applied i h;
        })

-- ---- the table of counts
module _ (c : ℕ) (u : Used) (w : List ℕ) where
  abbrev CountRun : ℕ → ℕ → Type 0
  CountRun b n = (j : ℕ) → j < n → CountSound u.keys b w j

  abbrev Small : ℕ → Type 0
  Small j = get_or w (4 * j + 3) 0 ≤ max_count

  pub counts-ready : (b n : ℕ) → CountRun b n → Rising (Before true) (tab n (row_in b w))
  counts-ready b n f = run-rises true b n w (λ i h. (f i h).rises)

  pub counts-done : (r : Bool) → CountRun c u.counts.old → CountRun (c + u.counts.old) u.counts.new
      → Says r (Rising (Before true) (table_of true c u.counts w)) → Says r (CountsSound c u w)
  counts-done r f g a =
      says r (CountsSound c u w)
      (λ e.
      record {
        rises = says-yes _ a e;
        delivered = both Small c u.counts (λ i h. (f i h).small) (λ i h. (g i h).small);
        keyed = both (HasKey u.keys w) c u.counts (λ i h. (f i h).keyed) (λ i h. (g i h).keyed);
      })
      (λ e s. says-no _ a e s.rises)

  module _ (s : CountsSound c u w) where
    pub counts-old : CountRun c u.counts.old
    counts-old i h =
        record {
          rises = run-steps true c u.counts.old w (old-rises true c u.counts w s.rises) i h;
          small = s.delivered i (omega arith);
          keyed = s.keyed i (omega arith);
        }

    pub counts-new : CountRun (c + u.counts.old) u.counts.new
    counts-new i h =
        record {
          rises = run-steps true (c + u.counts.old) u.counts.new w (new-rises true c u.counts w s.rises) i h;
          small = of-new Small c u.counts s.delivered i h;
          keyed = of-new (HasKey u.keys w) c u.counts s.keyed i h;
        }

-- ---- both tables
module _ (c : ℕ) (w : List ℕ) (u : Used) where
  tables-sound : KeysSound u.keys w → CountsSound c u w → TablesSound (prints_of c w u)
  unfolding prints_of row_at
  tables-sound k n =
      let ks = table_of false 0 u.keys w in
      let cs = table_of true c u.counts w in
      record {
        keys_rise = rising-map key_row KeyLess ks k.rises;
        pairs_rise = rising-map count_row CountLess cs n.rises;
        applied32 = each_map key_row (λ r. r.applied ≤ max_count) ks (table-each false 0 u.keys w (λ r. r.c ≤ max_count) k.applied);
        delivered32 = each_map count_row (λ r. r.delivered ≤ max_count) cs (table-each true c u.counts w (λ r. r.d ≤ max_count) n.delivered);
        keyed =
            each_map count_row (λ r. any (of_key r.key) (map key_row ks) ≡ true) cs
            (table-each true c u.counts w (λ r. any (of_key (key r.a r.b)) (map key_row ks) ≡ true) n.keyed);
      }

  -- where the tables are sound
  module _ (s : TablesSound (prints_of c w u)) where
    pub sound-keys : KeysSound u.keys w
    unfolding prints_of row_at
    sound-keys =
        let ks = table_of false 0 u.keys w in
        record {
          rises = map-rising key_row KeyLess ks s.keys_rise;
          applied = each-table false 0 u.keys w (λ r. r.c ≤ max_count) (map_each key_row (λ r. r.applied ≤ max_count) ks s.applied32);
        }

    sound-counts : CountsSound c u w
    unfolding prints_of row_at
    sound-counts =
        let ks = table_of false 0 u.keys w in
        let cs = table_of true c u.counts w in
        record {
          rises = map-rising count_row CountLess cs s.pairs_rise;
          delivered = each-table true c u.counts w (λ r. r.d ≤ max_count) (map_each count_row (λ r. r.delivered ≤ max_count) cs s.delivered32);
          keyed =
              each-table true c u.counts w (λ r. any (of_key (key r.a r.b)) (map key_row ks) ≡ true)
              (map_each count_row (λ r. any (of_key r.key) (map key_row ks) ≡ true) cs s.keyed);
        }

  pub sound-done : (r : Bool) → KeysSound u.keys w → Says r (CountsSound c u w) → Says r (TablesSound (prints_of c w u))
  sound-done r k n =
      says r (TablesSound (prints_of c w u)) (λ e. tables-sound k (says-yes (CountsSound c u w) n e))
      (λ e t. says-no (CountsSound c u w) n e (sound-counts t))
