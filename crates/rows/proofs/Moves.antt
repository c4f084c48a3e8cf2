-- Rows written, copied and moved up.
use mathlib.Core.Path.{◌≡◌, ◌∙◌, ap}
use mathlib.Core.Logic.{⊎_elim}
use mathlib.Core.List.{List, [], ◌∷◌}
use Prim.Native.Nat.{ℕ, ◌+◌, ◌*◌, ◌≤◌, ◌<◌}
use native.Mathlib.Nat.{add-zero}
use native.Mathlib.Omega.{arith}
use lib.ListN.{length, get_or, set}
use lib.Seq.{get_or-set_same, get_or-set_other}
use Rattle.words.specs.Words.{back}
use Rattle.words.proofs.Cases.{apart}
use Rattle.words.proofs.Parts.{Loan, back_below, back_in, back_above}
use Rattle.rows.specs.Rows.{Row, row, row_at, Put}

-- a row by its words
pub row_is : (w : List ℕ) (i : ℕ) (r : Row) → get_or w (4 * i + 0) 0 ≡ r.a → get_or w (4 * i + 1) 0 ≡ r.b → get_or w (4 * i + 2) 0 ≡ r.c → get_or w (4 * i + 3) 0 ≡ r.d → row_at w i ≡ r
unfolding row_at
row_is w i r a b c d = let z : 4 * i + 0 ≡ 4 * i = add-zero (4 * i) in let a' : get_or w (4 * i) 0 ≡ r.a = rw z at a in λ k. row (a' k) (b k) (c k) (d k)

pub row_same : (v w : List ℕ) (i j : ℕ) → ((o : ℕ) → o < 4 → get_or v (4 * i + o) 0 ≡ get_or w (4 * j + o) 0) → row_at v i ≡ row_at w j
unfolding row_at
row_same v w i j h =
    row_is v i (row_at w j)
    (h 0 (omega arith) ∙ ap (λ (k : ℕ). get_or w k 0) (add-zero (4 * j)))
    (h 1 (omega arith))
    (h 2 (omega arith))
    (h 3 (omega arith))

-- a row by its number
pub row-at : (w : List ℕ) (i j : ℕ) {r : Row} → i ≡ j → row_at w j ≡ r → row_at w i ≡ r
row-at w i j e p = ap (row_at w) e ∙ p

-- a row written whole
pub put_whole : (w ys : List ℕ) (i x y z u : ℕ) → 4 * i + 3 < length w → ys ≡ x ∷ y ∷ z ∷ u ∷ [] → Put w (back (4 * i) (4 * i + 4) ys w) i (row x y z u)
put_whole w ys i x y z u h e =
    record {
      here = row_is v i (row x y z u) (at 0 (omega arith)) (at 1 (omega arith)) (at 2 (omega arith)) (at 3 (omega arith));
      others = λ k q.
          row_same v w k k
          (λ o m.
          ⊎_elim
          (λ l. back_below (4 * i) (4 * i + 4) ys w lent (4 * k + o) (omega arith))
          (λ l. back_above (4 * i) (4 * i + 4) ys w lent (4 * k + o) (omega arith))
          (apart k i q));
    }
  where
    v : List ℕ
    v = back (4 * i) (4 * i + 4) ys w

    lent : Loan (4 * i) (4 * i + 4) ys w
    lent = record { kept = ap length e ∙ omega arith; start = omega arith; inside = omega arith }

    at : (o : ℕ) → o < 4 → get_or v (4 * i + o) 0 ≡ get_or (x ∷ y ∷ z ∷ u ∷ []) o 0
    at o m = back_in (4 * i) (4 * i + 4) ys w lent o (omega arith) ∙ ap (λ (l : List ℕ). get_or l o 0) e

-- one word of a row written
set-others : (w : List ℕ) (i p v : ℕ) → p < 4 → (k : ℕ) → (k ≡ i → ⊥) → row_at (set w (4 * i + p) v) k ≡ row_at w k
set-others w i p v h k q =
    row_same (set w (4 * i + p) v) w k k
    (λ o m. get_or-set_other w (4 * i + p) (4 * k + o) v 0 (λ e. ⊎_elim (λ l. omega arith) (λ l. omega arith) (apart k i q)))

module _ (w : List ℕ) (i v : ℕ) (h : 4 * i + 3 < length w) where
  pub put-third : Put w (set w (4 * i + 2) v) i (row (row_at w i).a (row_at w i).b v (row_at w i).d)
  unfolding row_at
  put-third =
      record {
        here =
            row_is (set w (4 * i + 2) v) i _
            (get_or-set_other w (4 * i + 2) (4 * i + 0) v 0 (λ e. omega arith) ∙ ap (λ (k : ℕ). get_or w k 0) (add-zero (4 * i)))
            (get_or-set_other w (4 * i + 2) (4 * i + 1) v 0 (λ e. omega arith))
            (get_or-set_same w (4 * i + 2) v 0 (omega arith))
            (get_or-set_other w (4 * i + 2) (4 * i + 3) v 0 (λ e. omega arith));
        others = set-others w i 2 v (omega arith);
      }

  pub put_last : Put w (set w (4 * i + 3) v) i (row (row_at w i).a (row_at w i).b (row_at w i).c v)
  unfolding row_at
  put_last =
      record {
        here =
            row_is (set w (4 * i + 3) v) i _
            (get_or-set_other w (4 * i + 3) (4 * i + 0) v 0 (λ e. omega arith) ∙ ap (λ (k : ℕ). get_or w k 0) (add-zero (4 * i)))
            (get_or-set_other w (4 * i + 3) (4 * i + 1) v 0 (λ e. omega arith))
            (get_or-set_other w (4 * i + 3) (4 * i + 2) v 0 (λ e. omega arith))
            (get_or-set_same w (4 * i + 3) v 0 (omega arith));
        others = set-others w i 3 v (omega arith);
      }

-- the rows from j to n have moved up by d
pub record Raised (w v : List ℕ) (j n d : ℕ) : Type 0 where
  pub size : length v ≡ length w
  pub high : j ≤ n
  pub low : (k : ℕ) → k < j + d → row_at v k ≡ row_at w k
  pub moved : (k : ℕ) → j ≤ k → k < n → row_at v (k + d) ≡ row_at w k
  pub past : (k : ℕ) → n + d ≤ k → row_at v k ≡ row_at w k
