-- Two lists merged word by word in front of another list.
use mathlib.Core.Path.{◌≡◌, refl, sym, ◌∙◌, ap}
use mathlib.Core.List.{List, [], ◌++◌}
use Prim.Native.Nat.{ℕ, ◌+◌, ◌≤◌, ◌<◌}
use native.Mathlib.Numerals.{add-one}
use native.Mathlib.Omega.{arith}
use lib.ListN.{length, take, drop, set, drop_of_length-le}
use lib.Seq.{take-suc-set, append_snoc}
use Rattle.rules.proofs.ListLaws.{append-nil}
use Rattle.member_order.specs.declared.sort.Picked.{Picked}
use Rattle.member_order.specs.Order.{insert_all, run, Picks}

-- of x the first i are read and of y the first j; count words are made of them
pub record Merged (name : ℕ → List ℕ) (x y m : List ℕ) (i j count : ℕ) : Type 0 where
  pub left : i ≤ length x
  pub right : j ≤ length y
  pub few : count ≤ i + j
  pub is : take count m ++ insert_all name (drop i x) (drop j y) ≡ insert_all name x y

module _ (name : ℕ → List ℕ) (x y m : List ℕ) where
  pub merged-none : Merged name x y m 0 0 0
  merged-none = record { left = omega arith; right = omega arith; few = omega arith; is = refl }

  module _ (i j count : ℕ) (d : Merged name x y m i j count) where
    pub merged-more : (p : Picked) → count < length m → Picks name x y i j p → Merged name x y (set m count p.word) p.i p.j (count + 1)
    merged-more p h k =
        record {
          left = k.4;
          right = k.5;
          few = omega (arith, d.few, k.3);
          is =
              ap (λ (n : ℕ). take n (set m count p.word) ++ insert_all name (drop p.i x) (drop p.j y)) (add-one count)
              ∙ ap (λ (l : List ℕ). l ++ insert_all name (drop p.i x) (drop p.j y)) (take-suc-set m count p.word h)
              ∙ append_snoc (take count m) p.word (insert_all name (drop p.i x) (drop p.j y))
              ∙ ap (λ (l : List ℕ). take count m ++ l) (sym k.0)
              ∙ d.is;
        }

    pub merged-all : length x + length y ≤ i + j → run m 0 count ≡ insert_all name x y
    unfolding insert_all
    merged-all h =
        let p : drop i x ≡ [] = drop_of_length-le x {i = i} (omega (arith, d.left, d.right)) in
        let q : drop j y ≡ [] = drop_of_length-le y {i = j} (omega (arith, d.left, d.right)) in
        sym (append-nil (take count m)) ∙ (rw (p, q) at d.is)
