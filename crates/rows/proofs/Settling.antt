-- The new rows of a table come to their places, the last one first.
use mathlib.Core.Path.{◌≡◌, refl, sym, ◌∙◌, ap, subst}
use mathlib.Core.List.{List, ◌∷◌, ◌++◌, append_assoc}
use mathlib.Core.Bool.{Bool, true, false}
use Prim.Native.Nat.{ℕ, suc, ◌+◌, ◌-◌, ◌≤◌, ◌<◌}
use native.Mathlib.Omega.{arith}
use lib.ListN.{length}
use Rattle.rules.specs.Lists.{Rising}
use Rattle.rules.proofs.Order.{same_pair, pair_before}
use Rattle.words.specs.Words.{tab}
use Rattle.words.proofs.Tab.{tab-ext}
use Rattle.rows.specs.Rows.{Row, row_at, row_in, Lower, Put, Shifted}
use Rattle.rows.specs.Tables.{before, Before, merged, table_of, size, Joined}
use Rattle.rows.specs.Merging.{Settled}
use Rattle.rows.specs.declared.Runs.{Runs}
use Rattle.rows.proofs.Moves.{row-at}
use Rattle.rows.proofs.Order.{pair_order}
use Rattle.rows.proofs.Merged.{merged-nil}
use Rattle.rows.proofs.Placed.{pos, before-is}
use Rattle.rows.proofs.FromBehind.{tab-append, tab-three, last-new}

-- one of them, by a search, a move and a row written
pub settle-done : (three : Bool) (b i j : ℕ) (new w v₁ v : List ℕ) (r : ℕ) → 0 < j
    → Lower three (row_in b w) i (row_at new (j - 1)).a (row_at new (j - 1)).b (row_at new (j - 1)).c r
    → Shifted w v₁ (b + r) (b + i) j → Put v₁ v (b + r + (j - 1)) (row_at new (j - 1)) → Settled three b i j new w v r
settle-done three b i j new w v₁ v r h l s p =
    record {
      within = l.within;
      left = l.left;
      right = l.right;
      here = p.here;
      moved = λ k m o. p.others (b + k + j) (λ q. omega arith) ∙ s.moved (b + k) (omega arith) (omega arith);
      front = λ k m. p.others k (λ q. omega arith) ∙ s.front k (omega arith);
      past = λ k m. p.others k (λ q. omega (arith, l.within)) ∙ s.past k (omega arith);
    }

-- of a table of n rows in order and m new ones, i and j are left to be merged; behind them the table is done
pub record Settling (three : Bool) (b n m : ℕ) (w t : List ℕ) (i j : ℕ) : Type 0 where
  pub same : length t ≡ length w
  pub old : i ≤ n
  pub new : j ≤ m
  pub front : (k : ℕ) → k < b + i → row_at t k ≡ row_at w k
  pub past : (k : ℕ) → b + (n + m) ≤ k → row_at t k ≡ row_at w k
  pub rest : merged (before three) (tab i (row_in b w)) (tab j (row_in (b + n) w)) ++ tab (n + m - (i + j)) (λ k. row_in b t (i + j + k))
      ≡ merged (before three) (tab n (row_in b w)) (tab m (row_in (b + n) w))

module _ (three : Bool) (b n m : ℕ) (w : List ℕ) (rises : Rising (Before three) (merged (before three) (tab n (row_in b w)) (tab m (row_in (b + n) w)))) where
  last_row : (i j r : ℕ) → i ≤ n → j < m → r ≤ i → (0 < r → before three (row_in b w (r - 1)) (row_in (b + n) w j) ≡ true)
      → (r < i → before three (row_in b w r) (row_in (b + n) w j) ≡ false)
      → merged (before three) (tab i (row_in b w)) (tab (suc j) (row_in (b + n) w))
      ≡ merged (before three) (tab r (row_in b w)) (tab j (row_in (b + n) w)) ++ (row_in (b + n) w j ∷ tab (i - r) (λ k. row_in b w (r + k)))
  last_row i j r hi hj hr =
      subst
      (λ (lt : Row → Row → Bool). Rising (λ x y. lt x y ≡ true) (merged lt (tab n (row_in b w)) (tab m (row_in (b + n) w)))
      → (0 < r → lt (row_in b w (r - 1)) (row_in (b + n) w j) ≡ true) → (r < i → lt (row_in b w r) (row_in (b + n) w j) ≡ false)
      → merged lt (tab i (row_in b w)) (tab (suc j) (row_in (b + n) w))
      ≡ merged lt (tab r (row_in b w)) (tab j (row_in (b + n) w)) ++ (row_in (b + n) w j ∷ tab (i - r) (λ k. row_in b w (r + k))))
      (sym (before-is three))
      (λ u. last-new (pos three) pair_before same_pair pair_order (row_in b w) (row_in (b + n) w) n m u i j r hi hj hr)
      rises

  module _ (new : List ℕ) (copy : (k : ℕ) → k < m → row_at new k ≡ row_in (b + n) w k) (t v : List ℕ) (i j r : ℕ)
      (s : Settling three b n m w t i j) (h : 0 < j) (l : length v ≡ length t) (d : Settled three b i j new t v r) where
    last : row_at new (j - 1) ≡ row_in (b + n) w (j - 1)
    last = copy (j - 1) (omega (arith, s.new))

    left : 0 < r → before three (row_in b w (r - 1)) (row_in (b + n) w (j - 1)) ≡ true
    left z = rw (← last, ← s.front (b + (r - 1)) (omega (arith, d.within))) (d.left z)

    right : r < i → before three (row_in b w r) (row_in (b + n) w (j - 1)) ≡ false
    right z = rw (← last, ← s.front (b + r) (omega arith)) (d.right z)

    -- what stands behind the rows that are left
    behind : tab (n + m - (r + (j - 1))) (λ k. row_in b v (r + (j - 1) + k))
        ≡ row_in (b + n) w (j - 1) ∷ (tab (i - r) (λ k. row_in b w (r + k)) ++ tab (n + m - (i + j)) (λ k. row_in b t (i + j + k)))
    behind =
        let q : n + m - (r + (j - 1)) ≡ suc ((i - r) + (n + m - (i + j))) = omega (arith, s.old, s.new, d.within) in
        ap (λ (c : ℕ). tab c (λ k. row_in b v (r + (j - 1) + k))) q
        ∙ tab-three (i - r) (n + m - (i + j)) (row_in (b + n) w (j - 1)) (λ k. row_in b w (r + k)) (λ k. row_in b t (i + j + k)) (λ k. row_in b v (r + (j - 1) + k))
        (row-at v (b + (r + (j - 1) + 0)) (b + r + (j - 1)) (omega arith) (d.here ∙ last))
        (λ k z.
        row-at v (b + (r + (j - 1) + suc k)) (b + (r + k) + j) (omega arith)
        (d.moved (r + k) (omega arith) (omega arith) ∙ s.front (b + (r + k)) (omega arith)))
        (λ k z.
        row-at v (b + (r + (j - 1) + suc ((i - r) + k))) (b + (i + j + k)) (omega (arith, d.within))
        (d.past (b + (i + j + k)) (omega arith)))

    pub settling-more : Settling three b n m w v r (j - 1)
    settling-more =
        record {
          same = l ∙ s.same;
          old = omega (arith, s.old, d.within);
          new = omega (arith, s.new);
          front = λ k z. d.front k (omega arith) ∙ s.front k (omega (arith, d.within));
          past = λ k z. d.past k (omega (arith, s.old, s.new)) ∙ s.past k z;
          rest =
              let q : suc (j - 1) ≡ j = omega arith in
              ap (λ (y : List Row). merged (before three) (tab r (row_in b w)) (tab (j - 1) (row_in (b + n) w)) ++ y) behind
              ∙ sym
              (append_assoc (merged (before three) (tab r (row_in b w)) (tab (j - 1) (row_in (b + n) w)))
              (row_in (b + n) w (j - 1) ∷ tab (i - r) (λ k. row_in b w (r + k)))
              (tab (n + m - (i + j)) (λ k. row_in b t (i + j + k))))
              ∙ sym
              (ap (λ (y : List Row). y ++ tab (n + m - (i + j)) (λ k. row_in b t (i + j + k)))
              (last_row i (j - 1) r s.old (omega (arith, s.new)) d.within left right))
              ∙ ap (λ (c : ℕ). merged (before three) (tab i (row_in b w)) (tab c (row_in (b + n) w)) ++ tab (n + m - (i + j)) (λ k. row_in b t (i + j + k))) q
              ∙ s.rest;
        }

-- none is left
pub settling-stop : (three : Bool) (b : ℕ) (u : Runs) (w t : List ℕ) (i j : ℕ) → Settling three b u.old u.new w t i j → j ≤ 0 → Joined three b u w t
unfolding table_of
settling-stop three b u w t i j s h =
    record {
      rows =
          parted
          ∙ ap (λ (l : List Row). l ++ tab (size u - (i + j)) (λ k. row_in b t (i + j + k))) front
          ∙ s.rest;
      below = λ k l. s.front k (omega arith);
      above = s.past;
    }
  where
    q : j ≡ 0
    q = omega arith

    front : tab i (row_in b t) ≡ merged (before three) (tab i (row_in b w)) (tab j (row_in (b + u.old) w))
    front =
        tab-ext i (row_in b t) (row_in b w) (λ k l. s.front (b + k) (omega arith))
        ∙ sym (ap (λ (c : ℕ). merged (before three) (tab i (row_in b w)) (tab c (row_in (b + u.old) w))) q ∙ merged-nil (before three) (tab i (row_in b w)))

    parted : tab (size u) (row_in b t) ≡ tab i (row_in b t) ++ tab (size u - (i + j)) (λ k. row_in b t (i + j + k))
    parted =
        let z : size u ≡ i + (size u - (i + j)) = omega (arith, s.old) in
        ap (λ (c : ℕ). tab c (row_in b t)) z
        ∙ tab-append i (size u - (i + j)) (row_in b t)
        ∙ ap (λ (l : List Row). tab i (row_in b t) ++ l)
        (tab-ext (size u - (i + j)) (λ k. row_in b t (i + k)) (λ k. row_in b t (i + j + k)) (λ k l. row-at t (b + (i + k)) (b + (i + j + k)) (omega arith) refl))
