-- A place that was made in a list is filled; and the levels of a side whose two lists are changed so.
use mathlib.Core.Path.{◌≡◌, ap, ◌∙◌}
use mathlib.Core.List.{List, ◌∷◌, ◌++◌}
use Prim.Native.Nat.{ℕ, zero, suc, ◌+◌, ◌-◌, ◌≤◌, ◌<◌, zero-le, suc-le-suc}
use native.Mathlib.Nat.{le_of_suc-le-suc, not-suc-le-zero}
use native.Mathlib.Numerals.{add-one}
use native.Mathlib.Omega.{arith}
use lib.Ieee.{Float, nan}
use lib.ListN.{length, set, take, drop}
use lib.Seq.{get_or-set_same, get_or-set_other}
use Rattle.words.specs.Words.{tab}
use Rattle.words.proofs.Tab.{tab-ext}
use Rattle.levels.specs.declared.Level.{Level}
use Rattle.levels.specs.Work.{level_in, levels_of, Opened, Closed}

module _ {A : Type 0} (d : A) where
  -- the place that was made is filled
  opened-put : (at n : ℕ) (v w : List A) (x : A) → Opened d at n v w → Opened d at n v (set w at x)
  opened-put at n v w x o =
      record {
        before = λ j l. get_or-set_other w at j x d (omega arith) ∙ o.before j l;
        after = λ j l m. get_or-set_other w at (j + 1) x d (omega arith) ∙ o.after j l m;
      }

-- the same of a list that is made from an index
module _ {A : Type 0} where
  tab-opened : (at n : ℕ) (f g : ℕ → A) (x : A) → at ≤ n → ((j : ℕ) → j < at → g j ≡ f j) → g at ≡ x → ((j : ℕ) → at ≤ j → j < n → g (suc j) ≡ f j)
      → tab (suc n) g ≡ take at (tab n f) ++ (x ∷ drop at (tab n f))
  tab-opened zero n f g x h b e a = rw (e, tab-ext n (λ j. g (suc j)) f (λ j l. a j zero-le l))
  tab-opened (suc at) zero f g x h b e a = absurd (not-suc-le-zero h)
  tab-opened (suc at) (suc n) f g x h b e a =
      rw (b 0 (suc-le-suc zero-le))
      (ap (λ (l : List A). f 0 ∷ l)
      (tab-opened at n (λ j. f (suc j)) (λ j. g (suc j)) x (le_of_suc-le-suc h) (λ j l. b (suc j) (suc-le-suc l)) e
      (λ j l m. a (suc j) (suc-le-suc l) (suc-le-suc m))))

  tab-closed : (at n : ℕ) (f g : ℕ → A) → at ≤ n → ((j : ℕ) → j < at → g j ≡ f j) → ((j : ℕ) → at ≤ j → j < n → g j ≡ f (suc j))
      → tab n g ≡ take at (tab (suc n) f) ++ drop (suc at) (tab (suc n) f)
  tab-closed zero n f g h b a = tab-ext n g (λ j. f (suc j)) (λ j l. a j zero-le l)
  tab-closed (suc at) zero f g h b a = absurd (not-suc-le-zero h)
  tab-closed (suc at) (suc n) f g h b a =
      rw (b 0 (suc-le-suc zero-le))
      (ap (λ (l : List A). f 0 ∷ l)
      (tab-closed at n (λ j. f (suc j)) (λ j. g (suc j)) (le_of_suc-le-suc h) (λ j l. b (suc j) (suc-le-suc l))
      (λ j l m. a (suc j) (suc-le-suc l) (suc-le-suc m))))

-- a price and a size that agree make one level
pub same-level : {p q : ℕ} {a b : Float} → p ≡ q → a ≡ b → ◌≡◌ {A = Level} (record { price = p; size = a }) (record { price = q; size = b })
same-level e f = λ i. record { price = e i; size = f i }

-- both lists of a side are changed alike
module _ (v w : List ℕ) (s t : List Float) (at : ℕ) where
  pub opened-levels : (n price : ℕ) (size : Float) → at ≤ n → at < length w → at < length t → Opened 0 at n v w → Opened nan at n s t
      → levels_of (set w at price) (set t at size) (n + 1) ≡ take at (levels_of v s n) ++ (record { price = price; size = size } ∷ drop at (levels_of v s n))
  opened-levels n price size h k l o r =
      let p = opened-put 0 at n v w price o in
      let q = opened-put nan at n s t size r in
      rw add-one
      (tab-opened at n (level_in v s) (level_in (set w at price) (set t at size)) _ h
      (λ j m. same-level (p.before j m) (q.before j m))
      (same-level (get_or-set_same w at price 0 k) (get_or-set_same t at size nan l))
      (λ j m x. rw add-one at (same-level (p.after j m x) (q.after j m x))))

  pub closed-levels : (n : ℕ) → at < n → Closed 0 at n v w → Closed nan at n s t
      → levels_of w t (n - 1) ≡ take at (levels_of v s n) ++ drop (at + 1) (levels_of v s n)
  closed-levels zero h o r = absurd (not-suc-le-zero h)
  closed-levels (suc n) h o r =
      let q : suc n - 1 ≡ n = omega arith in
      rw (q, add-one)
      (tab-closed at n (level_in v s) (level_in w t) (le_of_suc-le-suc h)
      (λ j l. same-level (o.before j l) (r.before j l))
      (λ j l m. rw add-one at (same-level (o.after j l (omega arith)) (r.after j l (omega arith)))))
