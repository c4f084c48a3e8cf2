-- Laws of lists made from an index.
use mathlib.Core.Path.{◌≡◌, refl, ap, ◌∙◌}
use mathlib.Core.List.{List, [], ◌∷◌, ◌++◌, map}
use Prim.Native.Nat.{ℕ, zero, suc, ◌+◌, ◌-◌, ◌<◌, zero-le, suc-le-suc}
use native.Mathlib.Nat.{le_of_suc-le-suc, not-suc-le-zero, zero-add, suc-add, sub-zero, zero-sub, suc-sub-suc}
use native.Mathlib.Numerals.{add-one}
use native.Mathlib.Omega.{arith}
use lib.ListN.{length, drop, get_or, set}
use lib.Seq.{drop-cons}
use Rattle.words.specs.Words.{tab}

pub length-tab : {A : Type 0} (n : ℕ) (f : ℕ → A) → length (tab n f) ≡ n
length-tab zero f = refl
length-tab (suc n) f = ap suc (length-tab n (λ i. f (suc i)))

pub get_d-tab : {A : Type 0} (n : ℕ) (f : ℕ → A) (i : ℕ) (d : A) → i < n → get_or (tab n f) i d ≡ f i
get_d-tab zero f i d h = absurd (not-suc-le-zero h)
get_d-tab (suc n) f zero d h = refl
get_d-tab (suc n) f (suc i) d h = get_d-tab n (λ j. f (suc j)) i d (le_of_suc-le-suc h)

pub tab-ext : {A : Type 0} (n : ℕ) (f g : ℕ → A) → ((i : ℕ) → i < n → f i ≡ g i) → tab n f ≡ tab n g
tab-ext zero f g h = refl
tab-ext (suc n) f g h = rw (h 0 (suc-le-suc zero-le), tab-ext n (λ i. f (suc i)) (λ i. g (suc i)) (λ i l. h (suc i) (suc-le-suc l)))

pub tab-suc : {A : Type 0} (n : ℕ) (f : ℕ → A) → tab (suc n) f ≡ tab n f ++ (f n ∷ [])
tab-suc zero f = refl
tab-suc (suc n) f = ap (λ (l : List _). f 0 ∷ l) (tab-suc n (λ i. f (suc i)))

-- one more row
pub tab-snoc : {A : Type 0} (n : ℕ) (f : ℕ → A) → tab (n + 1) f ≡ tab n f ++ (f n ∷ [])
tab-snoc n f = rw add-one (tab-suc n f)

pub map-tab : {A B : Type 0} (f : A → B) (n : ℕ) (r : ℕ → A) → map f (tab n r) ≡ tab n (λ i. f (r i))
map-tab f zero r = refl
map-tab f (suc n) r = ap {B = List _} (λ l. f (r 0) ∷ l) (map-tab f n (λ i. r (suc i)))

-- the rows from the k-th on, none where there are not so many
pub tab-from : {A : Type 0} (k n : ℕ) (f : ℕ → A) → drop k (tab n f) ≡ tab (n - k) (λ i. f (k + i))
tab-from zero n f = rw sub-zero (tab-ext n f (λ i. f (0 + i)) (λ i l. rw zero-add))
tab-from (suc k) zero f = rw zero-sub
tab-from (suc k) (suc n) f = rw suc-sub-suc (tab-from k n (λ i. f (suc i)) ∙ tab-ext (n - k) (λ i. f (suc (k + i))) (λ i. f (suc k + i)) (λ i l. rw suc-add))

-- the i-th row, and those behind it
pub drop-tab-cons : {A : Type 0} (n i : ℕ) (f : ℕ → A) → i < n → drop i (tab n f) ≡ f i ∷ drop (i + 1) (tab n f)
drop-tab-cons n i f h =
    let l : i < length (tab n f) = rw length-tab h in
    rw (drop-cons (tab n f) i (f i) l, get_d-tab n f i (f i) h, add-one)

-- one row is new, and the others are as they were
pub tab-set : {A : Type 0} (n : ℕ) (f g : ℕ → A) (i : ℕ) (a : A) → (i < n → g i ≡ a) → ((j : ℕ) → j < n → (j ≡ i → ⊥) → g j ≡ f j) → tab n g ≡ set (tab n f) i a
tab-set zero f g i a h k = refl
tab-set (suc n) f g zero a h k = rw (h (suc-le-suc zero-le), tab-ext n (λ j. g (suc j)) (λ j. f (suc j)) (λ j l. k (suc j) (suc-le-suc l) (λ q. omega arith)))
tab-set (suc n) f g (suc i) a h k = rw (k 0 (suc-le-suc zero-le) (λ q. omega arith), tab-set n (λ j. f (suc j)) (λ j. g (suc j)) i a (λ l. h (suc-le-suc l)) (λ j l e. k (suc j) (suc-le-suc l) (λ q. e (omega arith))))
