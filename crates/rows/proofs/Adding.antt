-- A row that is missing, put in: among the new rows, or behind all others, merged.
use mathlib.Core.Path.{◌≡◌, refl, sym, ◌∙◌, ap}
use mathlib.Core.List.{List, [], ◌∷◌}
use mathlib.Core.Bool.{Bool}
use Prim.Native.Nat.{ℕ, suc, ◌+◌, ◌-◌, ◌≤◌, ◌<◌}
use native.Mathlib.Omega.{arith}
use Rattle.rules.specs.Lists.{insert, Rising}
use Rattle.rules.proofs.Order.{same_pair, pair_before}
use Rattle.words.specs.Words.{tab}
use Rattle.words.proofs.Tab.{tab-ext}
use Rattle.rows.specs.Rows.{Row, row, row_at, row_in, Between, Put, Shifted}
use Rattle.rows.specs.Tables.{before, Before, merged, table_of, most_new, Table, Missing, Joined, Grown}
use Rattle.rows.specs.declared.Runs.{Runs}
use Rattle.rows.proofs.Moves.{row-at}
use Rattle.rows.proofs.Sorted.{gap-insert}
use Rattle.rows.proofs.Placed.{spot, pos, below-is, alike_is, before-is, insert-new, merged-one}
use Rattle.rows.proofs.TableLaws.{sorted}
use Rattle.rows.proofs.Ordered.{new-rises}

-- one run, with a row in its gap
run-insert : (three : Bool) (n : ℕ) (f f' : ℕ → Row) (x y z d i : ℕ) → Rising (Before three) (tab n f) → Between three f n x y z i
    → ((k : ℕ) → k < i → f' k ≡ f k) → f' i ≡ row x y z d → ((k : ℕ) → i ≤ k → k < n → f' (suc k) ≡ f k)
    → tab (n + 1) f' ≡ insert (before three) (row x y z d) (tab n f)
run-insert three n f f' x y z d i r g p q s =
    gap-insert (pos three) pair_before same_pair f n (sorted three n f r x y z) (spot three x y z) i g.within
    (λ l. sym (below-is three (f (i - 1)) x y z) ∙ g.left l)
    (λ l. sym (below-is three (f i) x y z) ∙ g.right l)
    (λ l. sym (alike_is three (f i) x y z) ∙ g.miss l)
    (row x y z d)
    f'
    refl
    p
    q
    s
    ∙ ap (λ (lt : Row → Row → Bool). insert lt (row x y z d) (tab n f)) (sym (before-is three))

module _ (three : Bool) (b : ℕ) (u : Runs) (x y z d : ℕ) (w v : List ℕ) where
  module _ (i : ℕ) (s : Table three b u w) (m : Missing three b u x y z w i) (few : u.new < most_new) (v₁ : List ℕ)
      (h : Shifted w v₁ (b + (u.old + i)) (b + (u.old + u.new)) 1) (p : Put v₁ v (b + (u.old + i)) (row x y z d)) where
    front : (k : ℕ) → k < b + (u.old + i) → row_at v k ≡ row_at w k
    front k l = p.others k (λ q. omega arith) ∙ h.front k (omega arith)

    -- the new rows
    news : tab (u.new + 1) (row_in (b + u.old) v) ≡ insert (before three) (row x y z d) (tab u.new (row_in (b + u.old) w))
    news =
        run-insert three u.new (row_in (b + u.old) w) (row_in (b + u.old) v) x y z d i (new-rises three b u w s.rises) m.new
        (λ k l. front (b + u.old + k) (omega arith))
        (row-at v (b + u.old + i) (b + (u.old + i)) (omega arith) p.here)
        (λ k l o.
        p.others (b + u.old + suc k) (λ q. omega arith)
        ∙ row-at v₁ (b + u.old + suc k) (b + u.old + k + 1) (omega arith) (h.moved (b + u.old + k) (omega arith) (omega arith)))

    pub add-few : Grown three b u (row x y z d) w v (record { runs = record { old = u.old; new = u.new + 1 }; at = u.old + i })
    unfolding table_of
    add-few =
        record {
          table =
              ap (λ (l : List Row). merged (before three) l (tab (u.new + 1) (row_in (b + u.old) v)))
              (tab-ext u.old (row_in b v) (row_in b w) (λ k l. front (b + k) (omega arith)))
              ∙ ap (λ (l : List Row). merged (before three) (tab u.old (row_in b w)) l) news
              ∙ sym (insert-new three (row x y z d) (tab u.old (row_in b w)) (tab u.new (row_in (b + u.old) w)));
          more = omega arith;
          short = omega arith;
          within = omega (arith, m.new.within);
          here = p.here;
          below = λ k l. front k (omega arith);
          above = λ k l. p.others k (λ q. omega (arith, m.new.within)) ∙ h.past k (omega arith);
        }

  module _ (v₁ : List ℕ) (j : Joined three b u w v₁) (p : Put v₁ v (b + (u.old + u.new)) (row x y z d)) where
    pub add-many : Grown three b u (row x y z d) w v (record { runs = record { old = u.old + u.new; new = 1 }; at = u.old + u.new })
    unfolding table_of
    add-many =
        record {
          table =
              ap (λ (r : Row). merged (before three) (tab (u.old + u.new) (row_in b v)) (r ∷ []))
              (row-at v (b + (u.old + u.new) + 0) (b + (u.old + u.new)) (omega arith) p.here)
              ∙ ap (λ (l : List Row). merged (before three) l (row x y z d ∷ []))
              (tab-ext (u.old + u.new) (row_in b v) (row_in b v₁) (λ k l. p.others (b + k) (λ q. omega arith)) ∙ j.rows)
              ∙ merged-one three (table_of three b u w) (row x y z d);
          more = omega arith;
          short = omega arith;
          within = omega arith;
          here = p.here;
          below = λ k l. p.others k (λ q. omega arith) ∙ j.below k l;
          above = λ k l. p.others k (λ q. omega arith) ∙ j.above k (omega arith);
        }
