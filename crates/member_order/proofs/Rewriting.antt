-- A list rewritten from a place on: copied to, in two parts, and over what was rewritten before.
use mathlib.Core.Path.{◌≡◌, refl, sym, ◌∙◌, ap}
use mathlib.Core.List.{List, [], ◌∷◌, ◌++◌}
use Prim.Native.Nat.{ℕ, suc, ◌+◌, ◌-◌, ◌≤◌, ◌<◌}
use native.Mathlib.Numerals.{add-one}
use native.Mathlib.Omega.{arith}
use lib.ListN.{length, take, drop, get_or, set, length-set, length-take, length-drop}
use lib.Seq.{take-set-le, drop-set-lt, drop-set-add, take-suc-set, take-suc, take-take, drop-drop, length-take-le}
use Rattle.member_order.specs.Order.{run, Rewritten}
use Rattle.member_order.proofs.Runs.{run_take}

-- ---- copied one by one
pub copied_none : (v m : List ℕ) (low : ℕ) → Rewritten v low 0 (run m 0 0) v
copied_none v m low = record { size = refl; few = omega arith; is = refl; below = refl; above = refl }

pub drop_more : (v w : List ℕ) (n k : ℕ) → n ≤ k → drop n w ≡ drop n v → drop k w ≡ drop k v
drop_more v w n k h e =
    let q : n + (k - n) ≡ k = omega arith in
    rw (← q, ← drop-drop (k - n) n w, ← drop-drop (k - n) n v, e)

take_less : (v w : List ℕ) (n k : ℕ) → k ≤ n → take n w ≡ take n v → take k w ≡ take k v
take_less v w n k h e = sym (take-take k n w h) ∙ ap (take k) e ∙ take-take k n v h

module _ (v m w : List ℕ) (low i : ℕ) (r : Rewritten v low i (run m 0 i) w) (h : i < length m) (l : low + i < length w) where
  length-next : length (run m 0 (i + 1)) ≡ i + 1
  length-next = length-take-le (i + 1) m (omega arith)

  is-next : take (suc i) (drop low (set w (low + i) (get_or m i 0))) ≡ take (i + 1) m
  is-next =
      let k : i < length (drop low w) = omega (arith, length-drop low w) in
      ap (take (suc i)) (drop-set-add low w i (get_or m i 0))
      ∙ take-suc-set (drop low w) i (get_or m i 0) k
      ∙ ap (λ (l : List ℕ). l ++ (get_or m i 0 ∷ [])) (rw (length-take-le i m (omega arith)) at r.is)
      ∙ sym (take-suc m i 0 h)
      ∙ ap (λ (k : ℕ). take k m) (sym (add-one i))

  pub copied_more : Rewritten v low (i + 1) (run m 0 (i + 1)) (set w (low + i) (get_or m i 0))
  copied_more =
      record {
        size = length-set w (low + i) (get_or m i 0) ∙ r.size;
        few = omega (arith, length-take (i + 1) m);
        is = rw length-next (ap (λ (k : ℕ). take k (drop low (set w (low + i) (get_or m i 0)))) (add-one i) ∙ is-next);
        below = take-set-le low w (low + i) (get_or m i 0) (omega arith) ∙ r.below;
        above =
            drop-set-lt (low + (i + 1)) w (low + i) (get_or m i 0) (omega arith)
            ∙ drop_more v w (low + i) (low + (i + 1)) (omega arith) r.above;
      }

-- ---- a second part behind the first
module _ (u v w x y : List ℕ) (low n : ℕ) where
  pub rewritten-second : (m : ℕ) → Rewritten u low n x v → Rewritten v (low + n) m y w → Rewritten u low (n + m) x w
  rewritten-second m r s =
      record {
        size = s.size ∙ r.size;
        few = omega arith;
        is =
            sym (run_take w low (length x) (low + n) (omega (arith, r.few)))
            ∙ ap (λ (l : List ℕ). run l low (length x)) s.below
            ∙ run_take v low (length x) (low + n) (omega (arith, r.few))
            ∙ r.is;
        below = take_less v w (low + n) low (omega arith) s.below ∙ r.below;
        above =
            drop_more v w (low + n + m) (low + (n + m)) (omega arith) s.above
            ∙ drop_more u v (low + n) (low + (n + m)) (omega arith) r.above;
      }

  -- ---- over the first
  pub rewritten-over : (m : ℕ) → m ≤ n → Rewritten u low n x v → Rewritten v low m y w → Rewritten u low n y w
  rewritten-over m h r s =
      record {
        size = s.size ∙ r.size;
        few = omega arith;
        is = s.is;
        below = s.below ∙ r.below;
        above = drop_more v w (low + m) (low + n) (omega arith) s.above ∙ r.above;
      }
