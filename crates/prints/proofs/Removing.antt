-- A connection's counts taken out: the rules' removal, and the rows in use still lie in the slice.
use mathlib.Core.Path.{◌≡◌, ◌∙◌, ap}
use mathlib.Core.List.{List, map}
use mathlib.Core.Bool.{true, false}
use Prim.Native.Nat.{ℕ}
use native.Mathlib.Omega.{arith}
use lib.ListN.{length}
use Rattle.rules.specs.Prints.{of_other, remove_counts}
use Rattle.words.proofs.Mapped.{keep-map}
use Rattle.rows.specs.declared.Runs.{Runs}
use Rattle.rows.specs.Tables.{table_of}
use Rattle.rows.specs.Removal.{Removed}
use Rattle.rows.proofs.TableLaws.{table_same}
use Rattle.prints.specs.declared.Used.{Used}
use Rattle.prints.specs.Area.{key_row, count_row, prints_of, Fits}
use Rattle.prints.proofs.Tables.{prints-eq}

module _ (c : ℕ) (w : List ℕ) (u : Used) (f : Fits c w u) (x : ℕ) (v : List ℕ) (l : length v ≡ length w) (r : Runs) (p : Removed c u.counts x w v r) where
  abbrev left : Used
  left = record { keys = u.keys; counts = r }

  pub removed-counts : (prints_of c v left ≡ remove_counts x (prints_of c w u)) × Fits c v left
  unfolding prints_of
  removed-counts = (
    prints-eq
        (ap (map key_row) (table_same false 0 u.keys w v (λ j a b. p.below j (omega (arith, f.apart)))))
        (ap (map count_row) p.table ∙ keep-map count_row (of_other x) (table_of true c u.counts w)),
    record {
      keys = record { inside = omega (arith, f.keys.inside); short = f.keys.short };
      counts = record { inside = omega (arith, p.old, p.new, f.counts.inside); short = omega (arith, p.new, f.counts.short) };
      apart = f.apart;
    },
  )
