-- Places made words, put in order and made places again.
use mathlib.Core.Path.{◌≡◌, refl, sym, ◌∙◌, ap}
use mathlib.Core.Bool.{Bool, true, false, cond}
use mathlib.Core.List.{List, [], ◌∷◌, map}
use Prim.Native.Nat.{ℕ, zero, suc, ◌+◌, ◌≤◌, ◌<◌}
use native.Mathlib.Omega.{arith}
use lib.ListN.{length, get_or, length-map}
use lib.Seq.{ext_get_or}
use Rattle.json_text.specs.Content.{before}
use Rattle.member_order.specs.Codes.{place_in, name_of, Coded, WordOf, PlaceOf, Made}
use Rattle.member_order.specs.Order.{insert, insert_all, ordered, run}
use Rattle.member_order.proofs.Insert.{Each}
use Rattle.member_order.proofs.Rewriting.{drop_more}
use Rattle.member_order.proofs.Runs.{get_d-run, length_run}
use Rattle.member_order.proofs.Sorting.{Sorted}

-- ---- words in order are their places in order
module _ (name : ℕ → List ℕ) where
  insert_places : (w : ℕ) (x : List ℕ) → map place_in (insert (name_of name) w x) ≡ insert name (place_in w) (map place_in x)
  unfolding insert
  insert_places w [] = refl
  insert_places w (q ∷ x) = go (before (name_of name w) (name_of name q)) (before (name_of name q) (name_of name w)) (insert_places w x)
    where
      go : (s t : Bool) → map place_in (insert (name_of name) w x) ≡ insert name (place_in w) (map place_in x)
          → map place_in (cond s (w ∷ q ∷ x) (cond t (q ∷ insert (name_of name) w x) (q ∷ x)))
          ≡ cond s (place_in w ∷ place_in q ∷ map place_in x) (cond t (place_in q ∷ insert name (place_in w) (map place_in x)) (place_in q ∷ map place_in x))
      go true t r = refl
      go false true r = ap (λ (l : List ℕ). place_in q ∷ l) r
      go false false r = refl

  ordered-places : (x : List ℕ) → map place_in (ordered (name_of name) x) ≡ ordered name (map place_in x)
  unfolding insert_all
  ordered-places [] = refl
  ordered-places (w ∷ x) = insert_places w (ordered (name_of name) x) ∙ ap (insert name (place_in w)) (ordered-places x)

-- ---- a run that is another's, element by element
get_d_map : (f : ℕ → ℕ) (x : List ℕ) (i : ℕ) → i < length x → get_or (map f x) i 0 ≡ f (get_or x i 0)
get_d_map f [] i h = absurd (omega arith)
get_d_map f (b ∷ x) zero h = refl
get_d_map f (b ∷ x) (suc i) h = get_d_map f x i (omega arith)

run-map :
    (f : ℕ → ℕ) (v w : List ℕ) (from n : ℕ) → from + n ≤ length v → from + n ≤ length w →
    ((i : ℕ) → i < n → get_or w (from + i) 0 ≡ f (get_or v (from + i) 0)) → run w from n ≡ map f (run v from n)
run-map f v w from n a b e =
    let l = length_run v from n a in
    let k = length_run w from n b in
    ext_get_or 0 (run w from n) (map f (run v from n)) (k ∙ sym (length-map (run v from n) f ∙ l)) λ i h.
    let g : i < n = omega arith in
    get_d-run w from n i g ∙ e i g ∙ ap f (sym (get_d-run v from n i g)) ∙ sym (get_d_map f (run v from n) i (omega arith))

module _ (name : ℕ → List ℕ) (u v : List ℕ) (low n : ℕ) (fits : low + n ≤ length u) (made : Made (WordOf name) u low n v) where
  -- the words have codes
  pub words-coded : Each (Coded name) (run v low n)
  words-coded i h =
      let g : i < n = omega (arith, length_run v low n (omega (arith, made.size))) in
      rw (get_d-run v low n i g) (made.each i g).1

  places-stay : run u low n ≡ map place_in (run v low n)
  places-stay = run-map place_in v u low n (omega (arith, made.size)) fits (λ i h. sym (made.each i h).0)

  -- and are made places when they lie in order
  pub sorted-places : (w z : List ℕ) (count : ℕ) → Sorted (name_of name) v low n w count → Made PlaceOf w low count z → Sorted name u low n z count
  sorted-places w z count s t =
      let x = ordered (name_of name) (run v low n) in
      let few : count ≤ n = omega (arith, s.1, s.0.few) in
      let p : map place_in x ≡ ordered name (run u low n) = ordered-places name (run v low n) ∙ ap (ordered name) (sym places-stay) in
      let k : length (ordered name (run u low n)) ≡ count = ap length (sym p) ∙ length-map x place_in ∙ sym s.1 in
      let q : run w low count ≡ x = ap (run w low) s.1 ∙ s.0.is in
      let r : run z low count ≡ map place_in (run w low count) =
      run-map place_in w z low count (omega (arith, s.0.size, made.size)) (omega (arith, t.size, s.0.size, made.size)) t.each in (
        record {
          size = t.size ∙ s.0.size ∙ made.size;
          few = omega arith;
          is = ap (run z low) k ∙ r ∙ ap (map place_in) q ∙ p;
          below = t.below ∙ s.0.below ∙ made.below;
          above = drop_more w z (low + count) (low + n) (omega arith) t.above ∙ s.0.above ∙ made.above;
        },
        sym k,
      )
