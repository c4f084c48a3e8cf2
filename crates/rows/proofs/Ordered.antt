-- The test of a table: whether the rows of each run rise, and whether the runs are apart.
use mathlib.Core.Path.{◌≡◌, sym, ◌∙◌, subst}
use mathlib.Core.Logic.{⊎_elim}
use mathlib.Core.List.{List}
use mathlib.Core.Bool.{Bool, false}
use Prim.Native.Nat.{ℕ, ◌+◌, ◌-◌, ◌≤◌, ◌<◌}
use native.Mathlib.Omega.{arith}
use Rattle.rules.specs.Lists.{any, Rising}
use Rattle.rules.proofs.Tests.{ff≢tt}
use Rattle.rules.proofs.Order.{same_pair, pair_before}
use Rattle.words.specs.Words.{tab}
use Rattle.words.proofs.Cases.{below_or}
use Rattle.words.proofs.Lists.{any_at, each_of, each_in, rising-of, rising-in}
use Rattle.rows.specs.Rows.{row_at, row_in, Rises}
use Rattle.rows.specs.Tables.{Before, table_of}
use Rattle.rows.specs.Merging.{Lacking, SeekNew}
use Rattle.rows.specs.declared.Runs.{Runs}
use Rattle.std.specs.Prelude.{Result, Ok, Err}
use Rattle.rows.proofs.Order.{pair_order}
use Rattle.rows.proofs.Sorted.{sorted-steps}
use Rattle.rows.proofs.Search.{found, missed}
use Rattle.rows.proofs.Placed.{pos, below-is, before-trans, beside, rising-merged, merged-rising}
use Rattle.rows.proofs.TableLaws.{run-gap}

-- P of the first i of n
pub record Upto (n : ℕ) (P : ℕ → Type 0) (i : ℕ) : Type 0 where
  pub within : i ≤ n
  pub each : (k : ℕ) → k < i → P k

pub upto-more : (n : ℕ) (P : ℕ → Type 0) (i : ℕ) → Upto n P i → i < n → P i → Upto n P (i + 1)
upto-more n P i u h p =
    record { within = omega arith; each = λ k l. ⊎_elim (λ b. u.each k b) (λ b. let q : k ≡ i = omega arith in rw q p) (below_or k i) }

-- ---- one run rises where each of its rows does
module _ (three : Bool) (b n : ℕ) (w : List ℕ) where
  pub run-rises : ((i : ℕ) → i < n → Rises three b w i) → Rising (Before three) (tab n (row_in b w))
  run-rises h =
      rising-of (Before three) n (row_in b w)
      (λ j k l m.
      below-is three (row_in b w j) (row_in b w k).a (row_in b w k).b (row_in b w k).c
      ∙ sorted-steps (pos three) pair_before same_pair (row_in b w) n pair_order
      (λ o p q. sym (below-is three (row_in b w (o - 1)) (row_in b w o).a (row_in b w o).b (row_in b w o).c) ∙ h o p q)
      j
      k
      l
      m)

  pub run-steps : Rising (Before three) (tab n (row_in b w)) → (i : ℕ) → i < n → Rises three b w i
  run-steps r i h l = rising-in (Before three) n (row_in b w) r (i - 1) i (omega arith) h

-- ---- both
module _ (three : Bool) (b : ℕ) (u : Runs) (w : List ℕ) where
  pub old-rises : Rising (Before three) (table_of three b u w) → Rising (Before three) (tab u.old (row_in b w))
  unfolding table_of
  old-rises r = (merged-rising three (tab u.old (row_in b w)) (tab u.new (row_in (b + u.old) w)) r).0

  pub new-rises : Rising (Before three) (table_of three b u w) → Rising (Before three) (tab u.new (row_in (b + u.old) w))
  unfolding table_of
  new-rises r = (merged-rising three (tab u.old (row_in b w)) (tab u.new (row_in (b + u.old) w)) r).1.0

  -- new row k is none of the old ones
  abbrev pub Alone : ℕ → Type 0
  Alone k = Lacking three b u.old w (row_at w (b + u.old + k))

  -- i new rows are none of the old ones, of which k are below the next
  pub record Walked (k i : ℕ) : Type 0 where
    pub upto : Upto u.new Alone i
    pub within : k ≤ u.old
    pub left : 0 < k → i < u.new → Before three (row_in b w (k - 1)) (row_in (b + u.old) w i)

  pub walked_more : (k i g : ℕ) → Rising (Before three) (tab u.new (row_in (b + u.old) w)) → Walked k i → i < u.new
      → (p : Result ℕ ℕ) → SeekNew three b u.old w (row_at w (b + u.old + i)) p → p ≡ Err g → Walked g (i + 1)
  walked_more k i g r s h p o e =
      let m = missed o e in
      record {
        upto = upto-more u.new Alone i s.upto h (record { at = g; gap = m });
        within = m.within;
        left = λ n l.
            before-trans three (row_in b w (g - 1)) (row_in (b + u.old) w i) (row_in (b + u.old) w (i + 1)) (m.left n)
            (rising-in (Before three) u.new (row_in (b + u.old) w) r i (i + 1) (omega arith) l);
      }

  pub table-rises : (i : ℕ) → Rising (Before three) (tab u.old (row_in b w)) → Rising (Before three) (tab u.new (row_in (b + u.old) w))
      → Upto u.new Alone i → u.new ≤ i → Rising (Before three) (table_of three b u w)
  unfolding table_of
  table-rises i o n a h =
      rising-merged three (tab u.old (row_in b w)) (tab u.new (row_in (b + u.old) w)) o n
      (each_of (λ y. any (beside three y) (tab u.old (row_in b w)) ≡ false) u.new (row_in (b + u.old) w)
      (λ k l. let g = a.each k (omega arith) in run-gap three u.old (row_in b w) o _ _ _ g.at g.gap))

  -- the new rows from i on are above all old ones
  pub walked-past : (k i : ℕ) → Rising (Before three) (tab u.old (row_in b w)) → Rising (Before three) (tab u.new (row_in (b + u.old) w)) → Walked k i
      → i < u.new → u.old ≤ k → Rising (Before three) (table_of three b u w)
  walked-past k i o n s h l =
      table-rises u.new o n
      (record {
        within = omega arith;
        each = λ m p. ⊎_elim (λ q. s.upto.each m q) (λ q. record { at = u.old; gap = past m q p }) (below_or m i);
      })
      (omega arith)
    where
      e : k ≡ u.old
      e = omega (arith, s.within)

      last : (m : ℕ) → i ≤ m → m < u.new → 0 < u.old → Before three (row_in b w (u.old - 1)) (row_in (b + u.old) w m)
      last m q p z =
          let f : Before three (row_in b w (u.old - 1)) (row_in (b + u.old) w i) = subst (λ (g : ℕ). Before three (row_in b w (g - 1)) (row_in (b + u.old) w i)) e (s.left (omega arith) h) in
          ⊎_elim
          (λ j. before-trans three (row_in b w (u.old - 1)) (row_in (b + u.old) w i) (row_in (b + u.old) w m) f (rising-in (Before three) u.new (row_in (b + u.old) w) n i m j p))
          (λ j. let g : m ≡ i = omega arith in rw g f)
          (below_or i m)

      past : (m : ℕ) → i ≤ m → m < u.new → SeekNew three b u.old w (row_in (b + u.old) w m) (Err u.old)
      past m q p = record { within = omega arith; left = last m q p; right = λ j. absurd (omega arith); miss = λ j. absurd (omega arith) }

  pub table-falls : (i k : ℕ) → i < u.new → (p : Result ℕ ℕ) → SeekNew three b u.old w (row_at w (b + u.old + i)) p → p ≡ Ok k
      → Rising (Before three) (table_of three b u w) → ⊥
  unfolding table_of
  table-falls i k h p o e r =
      let a = found o e in
      ff≢tt
      (each_in (λ y. any (beside three y) (tab u.old (row_in b w)) ≡ false) u.new (row_in (b + u.old) w)
      (merged-rising three (tab u.old (row_in b w)) (tab u.new (row_in (b + u.old) w)) r).1.1
      i
      h)
      (any_at (beside three (row_at w (b + u.old + i))) u.old (row_in b w) k a.within a.hit)
