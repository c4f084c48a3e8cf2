-- A merge from behind: the last of the new rows goes in front of the old ones that are above it.
use mathlib.Core.Path.{◌≡◌, ◌∙◌, ap}
use mathlib.Core.List.{List, ◌∷◌, ◌++◌}
use mathlib.Core.Bool.{Bool, true, false}
use Prim.Native.Nat.{ℕ, zero, suc, ◌+◌, ◌-◌, ◌≤◌, ◌<◌}
use native.Mathlib.Nat.{zero-add, suc-add}
use native.Mathlib.Omega.{arith}
use Rattle.rules.specs.Lists.{any, Rising}
use Rattle.rules.proofs.Tests.{ff≢tt, untrue}
use Rattle.words.specs.Words.{tab}
use Rattle.words.proofs.Tab.{tab-ext, tab-suc}
use Rattle.words.proofs.Lists.{any_at, each_of, each_in, rising-in}
use Rattle.rows.specs.Tables.{merged}
use Rattle.rows.proofs.Order.{Order}
use Rattle.rows.proofs.Sorted.{Sorted, gap-lower, gap-upper}
use Rattle.rows.proofs.Merged.{merged-split, merged-rising}

module _ {A : Type 0} where
  pub tab-append : (d c : ℕ) (f : ℕ → A) → tab (d + c) f ≡ tab d f ++ tab c (λ k. f (d + k))
  tab-append zero c f = rw (zero-add c) (tab-ext c f (λ k. f (0 + k)) (λ k l. rw (zero-add k)))
  tab-append (suc d) c f =
      rw (suc-add d c)
      (ap (λ (l : List A). f 0 ∷ l)
      (tab-append d c (λ k. f (suc k))
      ∙ ap (λ (l : List A). tab d (λ k. f (suc k)) ++ l) (tab-ext c (λ k. f (suc (d + k))) (λ k. f (suc d + k)) (λ k l. rw (suc-add d k)))))

  -- y, d rows f and c rows h stand behind one another in h'
  pub tab-three : (d c : ℕ) (y : A) (f h h' : ℕ → A) → h' 0 ≡ y → ((k : ℕ) → k < d → h' (suc k) ≡ f k) → ((k : ℕ) → k < c → h' (suc (d + k)) ≡ h k)
      → tab (suc (d + c)) h' ≡ y ∷ (tab d f ++ tab c h)
  tab-three d c y f h h' p q r =
      ap (λ (l : List A). h' 0 ∷ l) (tab-append d c (λ k. h' (suc k)))
      ∙ ap (λ (a : A). a ∷ (tab d (λ k. h' (suc k)) ++ tab c (λ k. h' (suc (d + k))))) p
      ∙ ap (λ (l : List A). y ∷ (l ++ tab c (λ k. h' (suc (d + k))))) (tab-ext d (λ k. h' (suc k)) f q)
      ∙ ap (λ (l : List A). y ∷ (tab d f ++ l)) (tab-ext c (λ k. h' (suc (d + k))) h r)

module _ {A I : Type 0} (pos : A → I) (B S : I → I → Bool) (o : Order B S) (f g : ℕ → A) (n m : ℕ)
    (rising : Rising (λ a b. B (pos a) (pos b) ≡ true) (merged (λ a b. B (pos a) (pos b)) (tab n f) (tab m g))) where
  old-up : (i j : ℕ) → i < j → j < n → B (pos (f i)) (pos (f j)) ≡ true
  old-up = rising-in (λ a b. B (pos a) (pos b) ≡ true) n f (merged-rising pos B S o (tab n f) (tab m g) rising).0

  new-up : (i j : ℕ) → i < j → j < m → B (pos (g i)) (pos (g j)) ≡ true
  new-up = rising-in (λ a b. B (pos a) (pos b) ≡ true) m g (merged-rising pos B S o (tab n f) (tab m g) rising).1.0

  differ : (i j : ℕ) → i < n → j < m → S (pos (f i)) (pos (g j)) ≡ false
  differ i j h l =
      untrue (S (pos (f i)) (pos (g j)))
      (λ e.
      ff≢tt
      (each_in (λ y. any (λ r. S (pos r) (pos y)) (tab n f) ≡ false) m g (merged-rising pos B S o (tab n f) (tab m g) rising).1.1 j l)
      (any_at (λ r. S (pos r) (pos (g j))) n f i h e))

  -- new row j has r of the first i old rows before it
  module _ (i j r : ℕ) (hi : i ≤ n) (hj : j < m) (hr : r ≤ i) (left : 0 < r → B (pos (f (r - 1))) (pos (g j)) ≡ true)
      (right : r < i → B (pos (f r)) (pos (g j)) ≡ false) where
    old : Sorted pos B S f i
    old = record { order = o; up = λ a b l k. old-up a b l (omega arith) }

    miss : r < i → S (pos (f r)) (pos (g j)) ≡ false
    miss l = differ r j (omega arith) hj

    under : (k : ℕ) → k < r → B (pos (f k)) (pos (g j)) ≡ true
    under = gap-lower pos B S f i old (pos (g j)) r hr left right miss

    over : (k : ℕ) → k < i - r → B (pos (g j)) (pos (f (r + k))) ≡ true
    over k l = gap-upper pos B S f i old (pos (g j)) r hr left right miss (r + k) (omega arith) (omega arith)

    parted : tab i f ≡ tab r f ++ tab (i - r) (λ k. f (r + k))
    parted = let q : i ≡ r + (i - r) = omega arith in ap (λ (k : ℕ). tab k f) q ∙ tab-append r (i - r) f

    pub last-new : merged (λ a b. B (pos a) (pos b)) (tab i f) (tab (suc j) g)
        ≡ merged (λ a b. B (pos a) (pos b)) (tab r f) (tab j g) ++ (g j ∷ tab (i - r) (λ k. f (r + k)))
    last-new =
        ap (λ (l : List A). merged (λ a b. B (pos a) (pos b)) l (tab (suc j) g)) parted
        ∙ ap (λ (l : List A). merged (λ a b. B (pos a) (pos b)) (tab r f ++ tab (i - r) (λ k. f (r + k))) l) (tab-suc j g)
        ∙ merged-split pos B S o (tab r f) (tab (i - r) (λ k. f (r + k))) (g j) (tab j g)
        (each_of (λ x. B (pos x) (pos (g j)) ≡ true) r f under)
        (each_of (λ x. B (pos (g j)) (pos x) ≡ true) (i - r) (λ k. f (r + k)) over)
        (each_of (λ x. B (pos x) (pos (g j)) ≡ true) j g (λ k l. new-up k j l hj))
