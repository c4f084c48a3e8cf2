-- Rows taken out of a table by their third word: run by run, and of the whole table.
use mathlib.Core.Path.{◌≡◌, refl, sym, ◌∙◌, ap}
use mathlib.Core.List.{List}
use mathlib.Core.Bool.{true, not}
use Prim.Native.Nat.{ℕ, ◌+◌, ◌*◌, ◌≤◌, ◌<◌}
use native.Mathlib.Omega.{arith}
use lib.ListN.{length, get_or}
use borrow.Author.Tests.{eq-eqb, ne_eqb}
use Rattle.rules.specs.Lists.{keep}
use Rattle.words.specs.Words.{tab}
use Rattle.words.proofs.Tab.{tab-ext}
use Rattle.words.proofs.Lists.{Kept, kept-yes, kept-no}
use Rattle.rows.specs.Rows.{Row, row_at, row_in, Put}
use Rattle.rows.specs.Tables.{before, merged, table_of, Table}
use Rattle.rows.specs.Removal.{without, RunKept, Removed}
use Rattle.rows.specs.declared.Runs.{Runs}
use Rattle.rows.proofs.Moves.{row-at}
use Rattle.rows.proofs.Placed.{keep-merged}
use Rattle.rows.proofs.Ordered.{old-rises, new-rises}

-- ---- a run: i rows looked at, j of them stay
pub record RunTurn (from n to z : ℕ) (w v : List ℕ) (i j : ℕ) : Type 0 where
  pub size : length v ≡ length w
  pub i-le : i ≤ n
  pub kept : Kept (without z) (row_in from w) (row_in to v) i j
  pub below : (k : ℕ) → k < to → row_at v k ≡ row_at w k
  pub rest : (k : ℕ) → from + i ≤ k → row_at v k ≡ row_at w k

third-is : (w : List ℕ) (k : ℕ) → (row_at w k).c ≡ get_or w (4 * k + 2) 0
unfolding row_at
third-is w k = refl

module _ (from n to z : ℕ) (w v : List ℕ) (i j : ℕ) (s : RunTurn from n to z w v i j) (h : i < n) where
  row_now : row_in from v i ≡ row_in from w i
  row_now = s.rest (from + i) (omega arith)

  third-now : (row_in from w i).c ≡ get_or v (4 * (from + i) + 2) 0
  third-now = ap (λ (r : Row). r.c) (sym row_now) ∙ third-is v (from + i)

  pub row_goes : get_or v (4 * (from + i) + 2) 0 ≡ z → RunTurn from n to z w v (i + 1) j
  row_goes e =
      record {
        size = s.size;
        i-le = omega arith;
        kept = kept-no (without z) (row_in from w) (row_in to v) i j s.kept (ap not (eq-eqb (row_in from w i).c z (third-now ∙ e)));
        below = s.below;
        rest = λ k l. s.rest k (omega arith);
      }

  module _ (le : to ≤ from) (e : get_or v (4 * (from + i) + 2) 0 ≡ z → ⊥) where
    stays : without z (row_in from w i) ≡ true
    stays = ap not (ne_eqb (row_in from w i).c z (λ q. e (sym third-now ∙ q)))

    pub row-moves : (v' : List ℕ) → length v' ≡ length v → Put v v' (to + j) (row_at v (from + i)) → RunTurn from n to z w v' (i + 1) (j + 1)
    row-moves v' l p =
        record {
          size = l ∙ s.size;
          i-le = omega arith;
          kept =
              kept-yes (without z) (row_in from w) (row_in to v) i j s.kept (row_in to v') stays (p.here ∙ row_now)
              (λ k m. p.others (to + k) (λ q. omega arith));
          below = λ k m. p.others k (λ q. omega arith) ∙ s.below k m;
          rest = λ k m. p.others k (λ q. omega (arith, s.kept.fewer)) ∙ s.rest k (omega arith);
        }

    -- no row before it went
    pub row_stays : from + i ≤ to + j → RunTurn from n to z w v (i + 1) (j + 1)
    row_stays m =
        record {
          size = s.size;
          i-le = omega arith;
          kept =
              kept-yes (without z) (row_in from w) (row_in to v) i j s.kept (row_in to v) stays
              (row-at v (to + j) (from + i) (omega (arith, s.kept.fewer)) row_now)
              (λ k q. refl);
          below = s.below;
          rest = λ k q. s.rest k (omega arith);
        }

pub run-done : (from n to z : ℕ) (w v : List ℕ) (i j : ℕ) → RunTurn from n to z w v i j → n ≤ i → RunKept from n to z w v j
run-done from n to z w v i j s h =
    let q : i ≡ n = omega (arith, s.i-le) in
    record {
      fewer = omega (arith, s.kept.fewer);
      kept = s.kept.front ∙ ap (λ (k : ℕ). keep (without z) (tab k (row_in from w))) q;
      below = s.below;
      above = λ k l. s.rest k (omega arith);
    }

-- ---- both runs
module _ (b : ℕ) (u : Runs) (z : ℕ) (w v x : List ℕ) (m n : ℕ) (t : Table true b u w)
    (p : RunKept b u.old b z w v m) (q : RunKept (b + u.old) u.new (b + m) z v x n) where
  abbrev left : Runs
  left = record { old = m; new = n }

  olds : tab m (row_in b x) ≡ keep (without z) (tab u.old (row_in b w))
  olds = tab-ext m (row_in b x) (row_in b v) (λ k l. q.below (b + k) (omega arith)) ∙ p.kept

  news : tab n (row_in (b + m) x) ≡ keep (without z) (tab u.new (row_in (b + u.old) w))
  news =
      q.kept
      ∙ ap (keep (without z)) (tab-ext u.new (row_in (b + u.old) v) (row_in (b + u.old) w) (λ k l. p.above (b + u.old + k) (omega arith)))

  pub removed : Removed b u z w x left
  unfolding table_of
  removed =
      record {
        table =
            (λ j. merged (before true) (olds j) (news j))
            ∙ sym
            (keep-merged true (without z) (tab u.old (row_in b w)) (tab u.new (row_in (b + u.old) w))
            (old-rises true b u w t.rises)
            (new-rises true b u w t.rises));
        old = p.fewer;
        new = q.fewer;
        below = λ k l. q.below k (omega arith) ∙ p.below k l;
      }
