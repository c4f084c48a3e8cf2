-- A side in two lent lists, its prices and its sizes, and what the work on them leaves. Places from the count on mean nothing.
use Rattle.std.specs.Prelude.{Option, ◌≡◌, Bool, true, false, List, reverse, ℕ, ◌+◌, ◌-◌, ◌≤◌, ◌<◌, get_or, Float}
use Rattle.std.specs.Prelude.{Result, Ok, Err}
use Rattle.std.specs.Float.{nan}
use Rattle.words.specs.Words.{tab}
use Rattle.levels.specs.declared.Level.{Level}
use Rattle.levels.specs.declared.refusal.Refusal.{Refusal}
use Rattle.rules.specs.Answers.{Queried, refusal, value}
use Rattle.levels.specs.Depth.{better, trim_side}

abbrev pub level_in : List ℕ → List Float → ℕ → Level
level_in prices sizes i = record { price = get_or prices i 0; size = get_or sizes i nan }

-- the first count places, as they lie
abbrev pub levels_of : List ℕ → List Float → ℕ → List Level
levels_of prices sizes count = tab count (level_in prices sizes)

-- a side: the level farthest out lies first, the best last
abbrev pub side_in : List ℕ → List Float → ℕ → List Level
side_in prices sizes count = reverse (levels_of prices sizes count)

-- the number that request 2 gives a refusal
abbrev pub number_of : Refusal → ℕ
number_of Refusal.Unsound = 1
number_of Refusal.Price = 12
number_of Refusal.Size = 13
number_of Refusal.Full = 14

-- each of the first n prices is above all behind it, or below
abbrev pub Falling : (falling : Bool) → List ℕ → ℕ → Type 0
Falling falling prices n = (i j : ℕ) → i < j → j < n → better falling (get_or prices i 0) (get_or prices j 0) ≡ true

-- at is where the price p stands, or would stand
pub record Place (falling : Bool) (prices : List ℕ) (n p at : ℕ) : Type 0 where
  pub within : at ≤ n
  pub ahead : (k : ℕ) → k < at → better falling (get_or prices k 0) p ≡ true
  pub behind : (k : ℕ) → at ≤ k → k < n → better falling (get_or prices k 0) p ≡ false

-- n of the prices are at p or better
pub record Through (falling : Bool) (prices : List ℕ) (count p n : ℕ) : Type 0 where
  pub within : n ≤ count
  pub ahead : (k : ℕ) → k < n → better falling p (get_or prices k 0) ≡ false
  pub behind : (k : ℕ) → n ≤ k → k < count → better falling p (get_or prices k 0) ≡ true

-- the sizes from a place on, up to another
abbrev pub sizes_in : List Float → (from to : ℕ) → List Float
sizes_in sizes from to = tab (to - from) (λ i. get_or sizes (from + i) nan)

-- w is v with a place made at `at` among the first n
pub record Opened {A : Type 0} (d : A) (at n : ℕ) (v w : List A) : Type 0 where
  pub before : (j : ℕ) → j < at → get_or w j d ≡ get_or v j d
  pub after : (j : ℕ) → at ≤ j → j < n → get_or w (j + 1) d ≡ get_or v j d

-- w is v without the place `at`
pub record Closed {A : Type 0} (d : A) (at n : ℕ) (v w : List A) : Type 0 where
  pub before : (j : ℕ) → j < at → get_or w j d ≡ get_or v j d
  pub after : (j : ℕ) → at ≤ j → j + 1 < n → get_or w j d ≡ get_or v (j + 1) d

-- what an answer and the lists it leaves say, as they lie
abbrev pub as_laid : Result ℕ Refusal → List ℕ → List Float → Queried (List Level)
as_laid (Ok n) prices sizes = value (levels_of prices sizes n)
as_laid (Err e) prices sizes = refusal (number_of e)

-- and of a side
abbrev pub as_side : Result ℕ Refusal → List ℕ → List Float → Queried (List Level)
as_side (Ok n) prices sizes = value (side_in prices sizes n)
as_side (Err e) prices sizes = refusal (number_of e)

-- a count that trims a side, whatever its sizes are
abbrev pub Trims : Bool → Option ℕ → List ℕ → (count left : ℕ) → Type 0
Trims bid best prices count left = (sizes : List Float) → side_in prices sizes left ≡ trim_side bid best (side_in prices sizes count)

-- a refusal changes no place
abbrev pub Stays : Result ℕ Refusal → List ℕ → List Float → List ℕ → List Float → Type 0
Stays (Ok n) prices sizes prices' sizes' = Unit {0}
Stays (Err e) prices sizes prices' sizes' = (prices' ≡ prices) × (sizes' ≡ sizes)
