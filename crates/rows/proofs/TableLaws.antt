-- What a place found in a table says of its list, and what a table's list keeps.
use Rattle.std.specs.Prelude.{Option, None, Some}
use mathlib.Core.Path.{◌≡◌, sym, ◌∙◌, ap, subst}
use mathlib.Core.Logic.{⊎_elim}
use mathlib.Core.List.{List}
use mathlib.Core.Bool.{Bool, true, false, ◌||◌}
use Prim.Native.Nat.{ℕ, ◌+◌, ◌-◌, ◌≤◌, ◌<◌}
use native.Mathlib.Omega.{arith}
use lib.ListN.{length}
use Rattle.rules.specs.Lists.{any, first, amend, Each, Rising}
use Rattle.rules.specs.Quantities.{Key}
use Rattle.rules.proofs.Tests.{ff≢tt, untrue, or-true}
use Rattle.rules.proofs.Order.{same_pair, pair_before}
use Rattle.words.specs.Words.{tab}
use Rattle.words.proofs.Cases.{below_or}
use Rattle.words.proofs.Tab.{length-tab, tab-ext}
use Rattle.words.proofs.Lists.{any_at, any_none, each_of, each_in, rising-in}
use Rattle.rows.specs.Rows.{Row, row_at, row_in, alike, Here, Between, Put}
use Rattle.rows.specs.Tables.{before, Before, merged, size, table_of, Table, Missing}
use Rattle.rows.specs.declared.Runs.{Runs}
use Rattle.rows.proofs.Order.{pair_order}
use Rattle.rows.proofs.Sorted.{Sorted}
use Rattle.rows.proofs.Sorted
use Rattle.rows.proofs.Merged.{any-merged, each-merged, merged-each, length_merged}
use Rattle.rows.proofs.Merged.{first-lacks, amend-lacks, first-old, first-new, amend-old, amend-new}
use Rattle.rows.proofs.Placed.{spot, pos, below-is, alike_is, mine, mine-is, beside, mine-beside, Apart, merged-rising}

-- ---- one run

module _ (three : Bool) (n : ℕ) (f : ℕ → Row) (rising : Rising (Before three) (tab n f)) (x y z : ℕ) where
  pub sorted : Sorted (pos three) pair_before same_pair f n
  sorted =
      record {
        order = pair_order;
        up = λ i j l m. sym (below-is three (f i) (f j).a (f j).b (f j).c) ∙ rising-in (Before three) n f rising i j l m;
      }

  module _ (i : ℕ) (h : i < n) (e : alike three (f i) x y z ≡ true) where
    hit : same_pair (pos three (f i)) (spot three x y z) ≡ true
    hit = sym (alike_is three (f i) x y z) ∙ e

    run-first : first (mine three x y z) (tab n f) ≡ Some (f i)
    run-first =
        subst (λ (t : Row → Bool). first t (tab n f) ≡ Some (f i)) (sym (mine-is three x y z))
        (Sorted.hit-first (pos three) pair_before same_pair f n sorted (spot three x y z) i h hit)

    run-amend : (g : Row → Row) (f' : ℕ → Row) → f' i ≡ g (f i) → ((k : ℕ) → (k ≡ i → ⊥) → f' k ≡ f k) → tab n f' ≡ amend (mine three x y z) g (tab n f)
    run-amend g f' a c =
        subst (λ (t : Row → Bool). tab n f' ≡ amend t g (tab n f)) (sym (mine-is three x y z))
        (Sorted.hit-amend (pos three) pair_before same_pair f n sorted (spot three x y z) i h hit g f' a c)

  pub run-gap : (i : ℕ) → Between three f n x y z i → any (mine three x y z) (tab n f) ≡ false
  run-gap i m =
      subst (λ (t : Row → Bool). any t (tab n f) ≡ false) (sym (mine-is three x y z))
      (Sorted.gap-any (pos three) pair_before same_pair f n sorted (spot three x y z) i m.within
      (λ l. sym (below-is three (f (i - 1)) x y z) ∙ m.left l)
      (λ l. sym (below-is three (f i) x y z) ∙ m.right l)
      (λ l. sym (alike_is three (f i) x y z) ∙ m.miss l))

-- ---- a table

module _ (three : Bool) (b : ℕ) (u : Runs) (w : List ℕ) where
  abbrev olds : List Row
  olds = tab u.old (row_in b w)

  abbrev news : List Row
  news = tab u.new (row_in (b + u.old) w)

  -- a row behind the old ones is a new one
  new_row : (i : ℕ) → u.old ≤ i → row_in (b + u.old) w (i - u.old) ≡ row_in b w i
  new_row i h = ap (row_at w) (omega arith)

  pub table-length : length (table_of three b u w) ≡ size u
  unfolding table_of
  table-length =
      let p : length olds ≡ u.old = length-tab u.old (row_in b w) in
      let q : length news ≡ u.new = length-tab u.new (row_in (b + u.old) w) in
      length_merged (before three) olds news ∙ omega arith

  pub table_same : (v : List ℕ) → ((k : ℕ) → b ≤ k → k < b + size u → row_at v k ≡ row_at w k) → table_of three b u v ≡ table_of three b u w
  unfolding table_of
  table_same v h =
      let p = tab-ext u.old (row_in b v) (row_in b w) (λ k l. h (b + k) (omega arith) (omega arith)) in
      let q = tab-ext u.new (row_in (b + u.old) v) (row_in (b + u.old) w) (λ k l. h (b + u.old + k) (omega arith) (omega arith)) in
      λ i. merged (before three) (p i) (q i)

  pub table-each : (P : Row → Type 0) → ((k : ℕ) → k < size u → P (row_in b w k)) → Each P (table_of three b u w)
  unfolding table_of
  table-each P h =
      each-merged (before three) P olds news
      (each_of P u.old (row_in b w) (λ k l. h k (omega arith)))
      (each_of P u.new (row_in (b + u.old) w) (λ k l. subst P (at k) (h (u.old + k) (omega arith))))
    where
      at : (k : ℕ) → row_in b w (u.old + k) ≡ row_in (b + u.old) w k
      at k = ap (row_at w) (omega arith)

  pub each-table : (P : Row → Type 0) → Each P (table_of three b u w) → (k : ℕ) → k < size u → P (row_in b w k)
  unfolding table_of
  each-table P h k l =
      let e : Each P olds × Each P news = merged-each (before three) P olds news h in
      ⊎_elim
      (λ m. each_in P u.old (row_in b w) e.0 k m)
      (λ m. subst P (new_row k m) (each_in P u.new (row_in (b + u.old) w) e.1 (k - u.old) (omega arith)))
      (below_or k u.old)

  module _ (s : Table three b u w) (x y z : ℕ) where
    runs : Rising (Before three) olds × (Rising (Before three) news × Apart three olds news)
    unfolding table_of
    runs = merged-rising three olds news s.rises

    -- no new row is that of the words if an old one is, and no old one if a new one is
    new-lacks : (i : ℕ) → i < u.old → alike three (row_in b w i) x y z ≡ true → any (mine three x y z) news ≡ false
    new-lacks i h e =
        any_none (mine three x y z) u.new (row_in (b + u.old) w)
        (λ k l.
        let r = row_in (b + u.old) w k in
        untrue (alike three r x y z)
        (λ q.
        ff≢tt
        (each_in (λ y. any (beside three y) olds ≡ false) u.new (row_in (b + u.old) w) runs.1.1 k l)
        (any_at (beside three r) u.old (row_in b w) i h (sym (ap (λ (t : Row → Bool). t (row_in b w i)) (mine-beside three r x y z q)) ∙ e))))

    old-lacks : (k : ℕ) → k < u.new → alike three (row_in (b + u.old) w k) x y z ≡ true → any (mine three x y z) olds ≡ false
    old-lacks k l e =
        ap (λ (t : Row → Bool). any t olds) (mine-beside three (row_in (b + u.old) w k) x y z e)
        ∙ each_in (λ y. any (beside three y) olds ≡ false) u.new (row_in (b + u.old) w) runs.1.1 k l

    -- ---- row i is that of the words
    module _ (i : ℕ) (h : Here three (row_in b w) (size u) x y z i) where
      new-hit : u.old ≤ i → alike three (row_in (b + u.old) w (i - u.old)) x y z ≡ true
      new-hit l = ap (λ (r : Row). alike three r x y z) (new_row i l) ∙ h.hit

      new-within : u.old ≤ i → i - u.old < u.new
      new-within l = omega (arith, h.within)

      pub hit-any : any (mine three x y z) (table_of three b u w) ≡ true
      unfolding table_of
      hit-any =
          any-merged (before three) (mine three x y z) olds news
          ∙ ⊎_elim
          (λ l. ap (λ (t : Bool). t || any (mine three x y z) news) (any_at (mine three x y z) u.old (row_in b w) i l h.hit))
          (λ l.
          ap (λ (t : Bool). any (mine three x y z) olds || t)
          (any_at (mine three x y z) u.new (row_in (b + u.old) w) (i - u.old) (new-within l) (new-hit l))
          ∙ or-true (any (mine three x y z) olds))
          (below_or i u.old)

      pub hit-first : first (mine three x y z) (table_of three b u w) ≡ Some (row_in b w i)
      unfolding table_of
      hit-first =
          ⊎_elim
          (λ l.
          first-old (before three) (mine three x y z) olds news (new-lacks i l h.hit)
          ∙ run-first three u.old (row_in b w) runs.0 x y z i l h.hit)
          (λ l.
          first-new (before three) (mine three x y z) olds news (old-lacks (i - u.old) (new-within l) (new-hit l))
          ∙ run-first three u.new (row_in (b + u.old) w) runs.1.0 x y z (i - u.old) (new-within l) (new-hit l)
          ∙ ap {B = Option Row} Some (new_row i l))
          (below_or i u.old)

      -- and it is changed, but keeps its place
      module _ (g : Row → Row) (keeps : (r : Row) → pos three (g r) ≡ pos three r) (v : List ℕ) (p : Put w v (b + i) (g (row_in b w i))) where
        above : (a r : Row) → before three a (g r) ≡ before three a r
        above a r =
            below-is three a (g r).a (g r).b (g r).c
            ∙ ap (pair_before (pos three a)) (keeps r)
            ∙ sym (below-is three a r.a r.b r.c)

        under : (r a : Row) → before three (g r) a ≡ before three r a
        under r a =
            below-is three (g r) a.a a.b a.c
            ∙ ap (λ (q : Key × ℕ). pair_before q (pos three a)) (keeps r)
            ∙ sym (below-is three r a.a a.b a.c)

        old-amend : i < u.old → table_of three b u v ≡ amend (mine three x y z) g (table_of three b u w)
        unfolding table_of
        old-amend l =
            let c =
            run-amend three u.old (row_in b w) runs.0 x y z i l h.hit g (row_in b v) p.here
            (λ k q. p.others (b + k) (λ e. q (omega arith))) in
            let d = tab-ext u.new (row_in (b + u.old) v) (row_in (b + u.old) w) (λ k m. p.others (b + u.old + k) (λ e. omega arith)) in
            (λ j. merged (before three) (c j) (d j))
            ∙ sym (amend-old (before three) (mine three x y z) g above under olds news (new-lacks i l h.hit))

        new-amend : u.old ≤ i → table_of three b u v ≡ amend (mine three x y z) g (table_of three b u w)
        unfolding table_of
        new-amend l =
            let c = tab-ext u.old (row_in b v) (row_in b w) (λ k m. p.others (b + k) (λ e. omega arith)) in
            let here : row_in (b + u.old) v (i - u.old) ≡ g (row_in (b + u.old) w (i - u.old)) =
            ap (row_at v) (omega arith) ∙ p.here ∙ sym (ap g (new_row i l)) in
            let d =
            run-amend three u.new (row_in (b + u.old) w) runs.1.0 x y z (i - u.old) (new-within l) (new-hit l) g (row_in (b + u.old) v)
            here
            (λ k q. p.others (b + u.old + k) (λ e. q (omega arith))) in
            (λ j. merged (before three) (c j) (d j))
            ∙ sym (amend-new (before three) (mine three x y z) g above under olds news (old-lacks (i - u.old) (new-within l) (new-hit l)))

        pub hit-amend : table_of three b u v ≡ amend (mine three x y z) g (table_of three b u w)
        hit-amend = ⊎_elim old-amend new-amend (below_or i u.old)

    -- ---- no row is
    module _ (i : ℕ) (m : Missing three b u x y z w i) where
      pub gap-any : any (mine three x y z) (table_of three b u w) ≡ false
      unfolding table_of
      gap-any =
          any-merged (before three) (mine three x y z) olds news
          ∙ ap (λ (t : Bool). t || any (mine three x y z) news) (run-gap three u.old (row_in b w) runs.0 x y z m.gap m.old)
          ∙ run-gap three u.new (row_in (b + u.old) w) runs.1.0 x y z i m.new

      pub gap-first : first (mine three x y z) (table_of three b u w) ≡ None
      gap-first = first-lacks (mine three x y z) (table_of three b u w) gap-any

      pub gap-amend : (g : Row → Row) → amend (mine three x y z) g (table_of three b u w) ≡ table_of three b u w
      gap-amend g = amend-lacks (mine three x y z) g (table_of three b u w) gap-any
