-- Lists of words: parts that are lent and come back, lists made from an index, words copied; and what a test says.
-- The forms are those of the borrow checker, so that no goal is rewritten to meet a law.
use Rattle.std.specs.Prelude.{◌≡◌, ◌⊎◌, List, [], ◌∷◌, ◌++◌, Bool, true, false, ℕ, zero, suc, ◌+◌, ◌-◌, ◌≤◌, ◌<◌, length, take, drop, get_or}

-- what `&w[a..e]` lends
abbrev pub part : ℕ → ℕ → List ℕ → List ℕ
part a e w = take (e - a) (drop a w)

-- w after `&mut w[a..e]` has come back as ys
abbrev pub back : ℕ → ℕ → List ℕ → List ℕ → List ℕ
back a e ys w = take a w ++ (ys ++ drop (e - a) (drop a w))

-- xs written over the front of a list; places past it stay
abbrev pub over : List ℕ → List ℕ → List ℕ
over xs v = xs ++ drop (length xs) v

-- f 0, f 1, .., f (n - 1)
abbrev pub tab : {A : Type 0} → ℕ → (ℕ → A) → List A
tab zero f = []
tab (suc n) f = f 0 ∷ tab n (λ i. f (suc i))

-- the n words at a and the n words at b are others
abbrev pub Apart : ℕ → ℕ → ℕ → Type 0
Apart a b n = (a + n ≤ b) ⊎ (b + n ≤ a)

-- w is v with i of its words from `from` on written from `to` on
pub record Copied (from to : ℕ) (v w : List ℕ) (i : ℕ) : Type 0 where
  pub size : length w ≡ length v
  pub done : (j : ℕ) → j < i → get_or w (to + j) 0 ≡ get_or v (from + j) 0
  pub below : (j : ℕ) → j < to → get_or w j 0 ≡ get_or v j 0
  pub above : (j : ℕ) → to + i ≤ j → get_or w j 0 ≡ get_or v j 0

-- a test's answer says whether P
abbrev pub Says : Bool → Type 0 → Type 0
Says true P = P
Says false P = P → ⊥
