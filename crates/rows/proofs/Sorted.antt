-- Rows in rising order: what stands at a place, and what a gap says.
use Rattle.std.specs.Prelude.{None, Some}
use mathlib.Core.Path.{◌≡◌, sym, ◌∙◌, ap, subst}
use mathlib.Core.Logic.{⊎_elim}
use mathlib.Core.Bool.{Bool, true, false}
use Prim.Native.Nat.{ℕ, zero, suc, ◌+◌, ◌-◌, ◌≤◌, ◌<◌}
use native.Mathlib.Numerals.{add-one}
use native.Mathlib.Omega.{arith}
use Rattle.rules.specs.Lists.{any, first, amend, insert}
use Rattle.words.specs.Words.{tab}
use Rattle.words.proofs.Cases.{below_or, apart}
use Rattle.rows.proofs.Order.{Order, less-differs, more-differs, less-not-more}
use Rattle.words.proofs.Lists.{any_at, any_none, first-at, first-none, amend-at, amend-none, insert-at}

-- n rows f, in the order B of their places, of which S is the equality
pub record Sorted {A I : Type 0} (pos : A → I) (B S : I → I → Bool) (f : ℕ → A) (n : ℕ) : Type 0 where
  pub order : Order B S
  pub up : (i j : ℕ) → i < j → j < n → B (pos (f i)) (pos (f j)) ≡ true

-- each above the one before it is enough
pub sorted-steps : {A I : Type 0} (pos : A → I) (B S : I → I → Bool) (f : ℕ → A) (n : ℕ) → Order B S
    → ((k : ℕ) → k < n → 0 < k → B (pos (f (k - 1))) (pos (f k)) ≡ true) → (i j : ℕ) → i < j → j < n → B (pos (f i)) (pos (f j)) ≡ true
sorted-steps pos B S f n o h i zero l m = absurd (omega arith)
sorted-steps pos B S f n o h i (suc j) l m =
    let q : suc j - 1 ≡ j = omega arith in
    let s : B (pos (f j)) (pos (f (suc j))) ≡ true = rw q at (h (suc j) m (omega arith)) in
    ⊎_elim
    (λ b. o.trans (pos (f i)) (pos (f j)) (pos (f (suc j))) (sorted-steps pos B S f n o h i j b (omega arith)) s)
    (λ b. let e : i ≡ j = omega arith in rw e s)
    (below_or i j)

module _ {A I : Type 0} (pos : A → I) (B S : I → I → Bool) (f : ℕ → A) (n : ℕ) (s : Sorted pos B S f n) (p : I) where
  -- ---- row i is at p
  module _ (i : ℕ) (h : i < n) (e : S (pos (f i)) p ≡ true) where
    pub only : (k : ℕ) → k < n → (k ≡ i → ⊥) → S (pos (f k)) p ≡ false
    only k l q =
        ⊎_elim
        (λ m. less-differs B S s.order (pos (f k)) p (subst (λ (x : I). B (pos (f k)) x ≡ true) (s.order.equal (pos (f i)) p e) (s.up k i m h)))
        (λ m. more-differs B S s.order (pos (f k)) p (subst (λ (x : I). B x (pos (f k)) ≡ true) (s.order.equal (pos (f i)) p e) (s.up i k m l)))
        (apart k i q)

    pub hit-any : any (λ r. S (pos r) p) (tab n f) ≡ true
    hit-any = any_at (λ r. S (pos r) p) n f i h e

    pub hit-first : first (λ r. S (pos r) p) (tab n f) ≡ Some (f i)
    hit-first = first-at (λ r. S (pos r) p) n f i h (λ k l. only k (omega arith) (λ q. omega arith)) e

    pub hit-amend : (g : A → A) (f' : ℕ → A) → f' i ≡ g (f i) → ((k : ℕ) → (k ≡ i → ⊥) → f' k ≡ f k) → tab n f' ≡ amend (λ r. S (pos r) p) g (tab n f)
    hit-amend g f' a b = amend-at (λ r. S (pos r) p) g n f f' i h (λ k l. only k (omega arith) (λ q. omega arith)) e a b

  -- ---- p lies in the gap before row i
  module _ (i : ℕ) (h : i ≤ n) (left : 0 < i → B (pos (f (i - 1))) p ≡ true) (right : i < n → B (pos (f i)) p ≡ false) (miss : i < n → S (pos (f i)) p ≡ false) where
    pub gap-lower : (k : ℕ) → k < i → B (pos (f k)) p ≡ true
    gap-lower k l =
        ⊎_elim
        (λ m. s.order.trans (pos (f k)) (pos (f (i - 1))) p (s.up k (i - 1) m (omega arith)) (left (omega arith)))
        (λ m. let q : k ≡ i - 1 = omega arith in rw q (left (omega arith)))
        (below_or k (i - 1))

    at_gap : i < n → B p (pos (f i)) ≡ true
    at_gap l = s.order.total (pos (f i)) p (right l) (miss l)

    pub gap-upper : (k : ℕ) → i ≤ k → k < n → B p (pos (f k)) ≡ true
    gap-upper k l m =
        ⊎_elim
        (λ b. s.order.trans p (pos (f i)) (pos (f k)) (at_gap (omega arith)) (s.up i k b m))
        (λ b. let q : k ≡ i = omega arith in rw q (at_gap (omega arith)))
        (below_or i k)

    gap-misses : (k : ℕ) → k < n → S (pos (f k)) p ≡ false
    gap-misses k l =
        ⊎_elim
        (λ b. less-differs B S s.order (pos (f k)) p (gap-lower k b))
        (λ b. more-differs B S s.order (pos (f k)) p (gap-upper k b l))
        (below_or k i)

    pub gap-any : any (λ r. S (pos r) p) (tab n f) ≡ false
    gap-any = any_none (λ r. S (pos r) p) n f gap-misses

    pub gap-first : first (λ r. S (pos r) p) (tab n f) ≡ None
    gap-first = first-none (λ r. S (pos r) p) n f gap-misses

    pub gap-amend : (g : A → A) → amend (λ r. S (pos r) p) g (tab n f) ≡ tab n f
    gap-amend g = amend-none (λ r. S (pos r) p) g n f gap-misses

    pub gap-insert : (x : A) (f' : ℕ → A) → pos x ≡ p → ((k : ℕ) → k < i → f' k ≡ f k) → f' i ≡ x → ((k : ℕ) → i ≤ k → k < n → f' (suc k) ≡ f k)
        → tab (n + 1) f' ≡ insert (λ r t. B (pos r) (pos t)) x (tab n f)
    gap-insert x f' z a b d =
        ap (λ (k : ℕ). tab k f') (add-one n)
        ∙ insert-at (λ r t. B (pos r) (pos t)) x n f f' i h
        (λ k l. subst (λ (y : I). B y (pos (f k)) ≡ false) (sym z) (less-not-more B S s.order (pos (f k)) p (gap-lower k l)))
        (λ l. subst (λ (y : I). B y (pos (f i)) ≡ true) (sym z) (at_gap l))
        a
        b
        d
