-- Lists made from an index, with the rules' tests.
use Rattle.std.specs.Prelude.{None, Some}
use mathlib.Core.Path.{◌≡◌, refl, sym, ◌∙◌, ap}
use mathlib.Core.List.{List, [], ◌∷◌, ◌++◌}
use mathlib.Core.Bool.{Bool, true, false, ◌||◌, cond}
use Prim.Native.Nat.{ℕ, zero, suc, ◌+◌, ◌≤◌, ◌<◌, suc-le-suc}
use native.Mathlib.Nat.{not-suc-le-zero, le_of_suc-le-suc}
use native.Mathlib.Omega.{arith}
use lib.ListN.{drop, drop_of_length-le}
use Rattle.rules.specs.Lists.{keep, any, first, amend, index, insert, Each, Rising}
use Rattle.rules.proofs.Tests.{ff≢tt}
use Rattle.rules.proofs.ListLaws.{append-nil}
use Rattle.words.specs.Words.{tab}
use Rattle.words.proofs.Tab.{length-tab, tab-ext, tab-snoc, drop-tab-cons}

or_right : (a b : Bool) → b ≡ true → (a || b) ≡ true
or_right true b e = refl
or_right false b e = e

-- what a test finds among rows made from an index, from the i-th on: whether one passes, and which is the first
module _ {A : Type 0} (t : A → Bool) (f : ℕ → A) (n i : ℕ) where
  past : n ≤ i → drop i (tab n f) ≡ []
  past h = drop_of_length-le (tab n f) {i = i} (omega (arith, length-tab n f))

  pub any_here : i < n → t (f i) ≡ true → true ≡ any t (drop i (tab n f))
  any_here h e = rw (drop-tab-cons n i f h, e)

  pub any-over : i < n → t (f i) ≡ false → any t (drop i (tab n f)) ≡ any t (drop (i + 1) (tab n f))
  any-over h e = rw (drop-tab-cons n i f h, e)

  pub any-end : n ≤ i → false ≡ any t (drop i (tab n f))
  any-end h = rw (past h)

  pub index-here : i < n → t (f i) ≡ true → i ≡ i + index t (drop i (tab n f))
  index-here h e = rw (drop-tab-cons n i f h, e) (omega arith)

  pub index-over : i < n → t (f i) ≡ false → i + index t (drop i (tab n f)) ≡ (i + 1) + index t (drop (i + 1) (tab n f))
  index-over h e = rw (drop-tab-cons n i f h, e) (omega arith)

  pub index-end : n ≤ i → i ≡ i + index t (drop i (tab n f))
  index-end h = rw (past h) (omega arith)

module _ {A : Type 0} where
  pub any_at : (t : A → Bool) (n : ℕ) (f : ℕ → A) (i : ℕ) → i < n → t (f i) ≡ true → any t (tab n f) ≡ true
  any_at t zero f i h e = absurd (not-suc-le-zero h)
  any_at t (suc n) f zero h e = rw e
  any_at t (suc n) f (suc i) h e = or_right (t (f 0)) (any t (tab n (λ k. f (suc k)))) (any_at t n (λ k. f (suc k)) i (le_of_suc-le-suc h) e)

  pub any_none : (t : A → Bool) (n : ℕ) (f : ℕ → A) → ((k : ℕ) → k < n → t (f k) ≡ false) → any t (tab n f) ≡ false
  any_none t zero f h = refl
  any_none t (suc n) f h = rw (h 0 (omega arith)) (any_none t n (λ k. f (suc k)) (λ k l. h (suc k) (suc-le-suc l)))

  -- some row passes
  pub record Passes (t : A → Bool) (n : ℕ) (f : ℕ → A) : Type 0 where
    pub at : ℕ
    pub within : at < n
    pub passes : t (f at) ≡ true

  pub any-passes : (t : A → Bool) (n : ℕ) (f : ℕ → A) → any t (tab n f) ≡ true → Passes t n f
  any-passes t zero f e = absurd (ff≢tt refl e)
  any-passes t (suc n) f e = go (t (f 0)) refl e (λ z. any-passes t n (λ k. f (suc k)) z)
    where
      go : (b : Bool) → t (f 0) ≡ b → (b || any t (tab n (λ k. f (suc k)))) ≡ true → (any t (tab n (λ k. f (suc k))) ≡ true → Passes t n (λ k. f (suc k))) → Passes t (suc n) f
      go true q z r = record { at = 0; within = omega arith; passes = q }
      go false q z r = record { at = suc (r z).at; within = suc-le-suc (r z).within; passes = (r z).passes }

  pub first-at : (t : A → Bool) (n : ℕ) (f : ℕ → A) (i : ℕ) → i < n → ((k : ℕ) → k < i → t (f k) ≡ false) → t (f i) ≡ true → first t (tab n f) ≡ Some (f i)
  first-at t zero f i h b e = absurd (not-suc-le-zero h)
  first-at t (suc n) f zero h b e = rw e
  first-at t (suc n) f (suc i) h b e = rw (b 0 (omega arith)) (first-at t n (λ k. f (suc k)) i (le_of_suc-le-suc h) (λ k l. b (suc k) (suc-le-suc l)) e)

  pub first-none : (t : A → Bool) (n : ℕ) (f : ℕ → A) → ((k : ℕ) → k < n → t (f k) ≡ false) → first t (tab n f) ≡ None
  first-none t zero f h = refl
  first-none t (suc n) f h = rw (h 0 (omega arith)) (first-none t n (λ k. f (suc k)) (λ k l. h (suc k) (suc-le-suc l)))

  cons : {x y : A} {l m : List A} → x ≡ y → l ≡ m → x ∷ l ≡ y ∷ m
  cons p q = λ i. p i ∷ q i

  pub amend-at : (t : A → Bool) (g : A → A) (n : ℕ) (f f' : ℕ → A) (i : ℕ) → i < n → ((k : ℕ) → k < i → t (f k) ≡ false) → t (f i) ≡ true
      → f' i ≡ g (f i) → ((k : ℕ) → (k ≡ i → ⊥) → f' k ≡ f k) → tab n f' ≡ amend t g (tab n f)
  amend-at t g zero f f' i h b e p q = refl
  amend-at t g (suc n) f f' zero h b e p q =
      rw e (cons p (tab-ext n (λ k. f' (suc k)) (λ k. f (suc k)) (λ k l. q (suc k) (λ z. omega arith))))
  amend-at t g (suc n) f f' (suc i) h b e p q =
      rw (b 0 (omega arith))
      (cons (q 0 (λ z. omega arith))
      (amend-at t g n (λ k. f (suc k)) (λ k. f' (suc k)) i (le_of_suc-le-suc h) (λ k l. b (suc k) (suc-le-suc l)) e p (λ k z. q (suc k) (λ y. z (omega arith)))))

  pub amend-none : (t : A → Bool) (g : A → A) (n : ℕ) (f : ℕ → A) → ((k : ℕ) → k < n → t (f k) ≡ false) → amend t g (tab n f) ≡ tab n f
  amend-none t g zero f h = refl
  amend-none t g (suc n) f h = rw (h 0 (omega arith)) (cons refl (amend-none t g n (λ k. f (suc k)) (λ k l. h (suc k) (suc-le-suc l))))

  pub insert-at : (lt : A → A → Bool) (x : A) (n : ℕ) (f f' : ℕ → A) (i : ℕ) → i ≤ n → ((k : ℕ) → k < i → lt x (f k) ≡ false) → (i < n → lt x (f i) ≡ true)
      → ((k : ℕ) → k < i → f' k ≡ f k) → f' i ≡ x → ((k : ℕ) → i ≤ k → k < n → f' (suc k) ≡ f k) → tab (suc n) f' ≡ insert lt x (tab n f)
  insert-at lt x zero f f' zero h b e p q r = cons q refl
  insert-at lt x zero f f' (suc i) h b e p q r = absurd (not-suc-le-zero h)
  insert-at lt x (suc n) f f' zero h b e p q r =
      rw (e (omega arith)) (cons q (tab-ext (suc n) (λ k. f' (suc k)) f (λ k l. r k (omega arith) l)))
  insert-at lt x (suc n) f f' (suc i) h b e p q r =
      rw (b 0 (omega arith))
      (cons (p 0 (omega arith))
      (insert-at lt x n (λ k. f (suc k)) (λ k. f' (suc k)) i (le_of_suc-le-suc h) (λ k l. b (suc k) (suc-le-suc l)) (λ l. e (suc-le-suc l)) (λ k l. p (suc k) (suc-le-suc l)) q
      (λ k l m. r (suc k) (suc-le-suc l) (suc-le-suc m))))

  pub each_of : (P : A → Type 0) (n : ℕ) (f : ℕ → A) → ((i : ℕ) → i < n → P (f i)) → Each P (tab n f)
  each_of P zero f h = tt
  each_of P (suc n) f h = (h 0 (omega arith), each_of P n (λ k. f (suc k)) (λ k l. h (suc k) (suc-le-suc l)))

  pub each_in : (P : A → Type 0) (n : ℕ) (f : ℕ → A) → Each P (tab n f) → (i : ℕ) → i < n → P (f i)
  each_in P zero f e i h = absurd (not-suc-le-zero h)
  each_in P (suc n) f e zero h = e.0
  each_in P (suc n) f e (suc i) h = each_in P n (λ k. f (suc k)) e.1 i (le_of_suc-le-suc h)

  pub rising-of : (R : A → A → Type 0) (n : ℕ) (f : ℕ → A) → ((i j : ℕ) → i < j → j < n → R (f i) (f j)) → Rising R (tab n f)
  unfolding Rising
  rising-of R zero f h = tt
  rising-of R (suc n) f h = (
    each_of (R (f 0)) n (λ k. f (suc k)) (λ k l. h 0 (suc k) (omega arith) (suc-le-suc l)),
    rising-of R n (λ k. f (suc k)) (λ i j l m. h (suc i) (suc j) (suc-le-suc l) (suc-le-suc m)),
  )

  pub rising-in : (R : A → A → Type 0) (n : ℕ) (f : ℕ → A) → Rising R (tab n f) → (i j : ℕ) → i < j → j < n → R (f i) (f j)
  unfolding Rising
  rising-in R zero f r i j h l = absurd (not-suc-le-zero l)
  rising-in R (suc n) f r i zero h l = absurd (not-suc-le-zero h)
  rising-in R (suc n) f r zero (suc j) h l = each_in (R (f 0)) n (λ k. f (suc k)) r.0 j (le_of_suc-le-suc l)
  rising-in R (suc n) f r (suc i) (suc j) h l = rising-in R n (λ k. f (suc k)) r.1 i j (le_of_suc-le-suc h) (le_of_suc-le-suc l)

  -- ---- the rows that pass, moved together
  keep_snoc : (t : A → Bool) (l : List A) (x : A) → keep t (l ++ (x ∷ [])) ≡ keep t l ++ cond (t x) (x ∷ []) []
  keep_snoc t [] x = refl
  keep_snoc t (y ∷ l) x = go (t y) (keep_snoc t l x)
    where
      go : (b : Bool) → keep t (l ++ (x ∷ [])) ≡ keep t l ++ cond (t x) (x ∷ []) []
          → cond b (y ∷ keep t (l ++ (x ∷ []))) (keep t (l ++ (x ∷ []))) ≡ cond b (y ∷ keep t l) (keep t l) ++ cond (t x) (x ∷ []) []
      go true r = cons refl r
      go false r = r

  -- of the rows f the first i are looked at, and the j that pass stand at the front of g
  pub record Kept (t : A → Bool) (f g : ℕ → A) (i j : ℕ) : Type 0 where
    pub fewer : j ≤ i
    pub front : tab j g ≡ keep t (tab i f)

  pub kept-none : (t : A → Bool) (f g : ℕ → A) → Kept t f g 0 0
  kept-none t f g = record { fewer = omega arith; front = refl }

  module _ (t : A → Bool) (f g : ℕ → A) (i j : ℕ) (s : Kept t f g i j) where
    one_more : keep t (tab (i + 1) f) ≡ keep t (tab i f) ++ cond (t (f i)) (f i ∷ []) []
    one_more = ap (keep t) (tab-snoc i f) ∙ keep_snoc t (tab i f) (f i)

    pub kept-yes : (g' : ℕ → A) → t (f i) ≡ true → g' j ≡ f i → ((k : ℕ) → k < j → g' k ≡ g k) → Kept t f g' (i + 1) (j + 1)
    kept-yes g' e p q =
        record {
          fewer = omega (arith, s.fewer);
          front =
              tab-snoc j g'
              ∙ ap (λ (x : A). tab j g' ++ (x ∷ [])) p
              ∙ ap (λ (l : List A). l ++ (f i ∷ [])) (tab-ext j g' g q ∙ s.front)
              ∙ sym (one_more ∙ ap (λ (b : Bool). keep t (tab i f) ++ cond b (f i ∷ []) []) e);
        }

    pub kept-no : t (f i) ≡ false → Kept t f g (i + 1) j
    kept-no e =
        record {
          fewer = omega (arith, s.fewer);
          front = s.front ∙ sym (one_more ∙ ap (λ (b : Bool). keep t (tab i f) ++ cond b (f i ∷ []) []) e ∙ append-nil (keep t (tab i f)));
        }

  -- what one test lets pass another refuses
  pub any-keep-none : (t s : A → Bool) (n : ℕ) (f : ℕ → A) → ((k : ℕ) → k < n → s (f k) ≡ true → t (f k) ≡ false) → any t (keep s (tab n f)) ≡ false
  any-keep-none t s zero f h = refl
  any-keep-none t s (suc n) f h = go (s (f 0)) refl (any-keep-none t s n (λ k. f (suc k)) (λ k l. h (suc k) (suc-le-suc l)))
    where
      go : (b : Bool) → s (f 0) ≡ b → any t (keep s (tab n (λ k. f (suc k)))) ≡ false
          → any t (cond b (f 0 ∷ keep s (tab n (λ k. f (suc k)))) (keep s (tab n (λ k. f (suc k))))) ≡ false
      go true e r = rw (h 0 (omega arith) e) r
      go false e r = r

  pub any-keep-at : (t s : A → Bool) (n : ℕ) (f : ℕ → A) (i : ℕ) → i < n → s (f i) ≡ true → t (f i) ≡ true → any t (keep s (tab n f)) ≡ true
  any-keep-at t s zero f i h e d = absurd (not-suc-le-zero h)
  any-keep-at t s (suc n) f zero h e d = rw (e, d)
  any-keep-at t s (suc n) f (suc i) h e d = go (s (f 0)) (any-keep-at t s n (λ k. f (suc k)) i (le_of_suc-le-suc h) e d)
    where
      go : (b : Bool) → any t (keep s (tab n (λ k. f (suc k)))) ≡ true
          → any t (cond b (f 0 ∷ keep s (tab n (λ k. f (suc k)))) (keep s (tab n (λ k. f (suc k))))) ≡ true
      go true r = or_right (t (f 0)) _ r
      go false r = r
