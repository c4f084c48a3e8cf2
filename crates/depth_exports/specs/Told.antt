-- A depth in four lent arrays, and what an answer's numbers say: code 1 is done, code 0 refused, and the number is the refusal's.
use Rattle.std.specs.Prelude.{None, Option, Some, ◌≡◌, List, Bool, cond, ℕ, eqb, Float, Result, Ok, Err}
use Rattle.rules.specs.Answers.{Queried, refusal, value}
use Rattle.levels.specs.declared.Level.{Level}
use Rattle.levels.specs.declared.refusal.Refusal.{Refusal}
use Rattle.levels.specs.Depth.{Book}
use Rattle.levels.specs.Work.{side_in, number_of}

-- the arrays of prices and of sizes
pub record Arrays : Type 0 where
  pub bid_prices : List ℕ
  pub bid_sizes : List Float
  pub ask_prices : List ℕ
  pub ask_sizes : List Float

abbrev pub arrays : List ℕ → List Float → List ℕ → List Float → Arrays
arrays bp bs ap az = record { bid_prices = bp; bid_sizes = bs; ask_prices = ap; ask_sizes = az }

abbrev pub book_in : Arrays → (bids asks : ℕ) → Book
book_in a bids asks = record { bids = side_in a.bid_prices a.bid_sizes bids; asks = side_in a.ask_prices a.ask_sizes asks }

-- a code and a number, with what is given where the code is not 0
abbrev pub told : {A : Type 0} → (code number : ℕ) → A → Queried A
told code number a = cond (eqb code 0) (refusal number) (value a)

-- a level set: the number is the new count of its side
abbrev pub told_set : (bid : Bool) (code number : ℕ) → Arrays → (bids asks : ℕ) → Queried Book
told_set bid code number a bids asks = told code number (cond bid (book_in a number asks) (book_in a bids number))

-- a refusal changes nothing: the code is 0. The number is 0 where there is no best level
abbrev pub Same : {A : Type 0} → (told : ℕ) → A → A → Type 0
Same told a b = told ≡ 0 → b ≡ a

-- the code and the number of an answer
abbrev pub Tells : Result ℕ Refusal → (code number : ℕ) → Type 0
Tells (Ok n) code number = (code ≡ 1) × (number ≡ n)
Tells (Err e) code number = (code ≡ 0) × (number ≡ number_of e)

-- what the host says is reported
abbrev pub reported_by : Bool → ℕ → Option ℕ
reported_by reported price = cond reported (Some price) None

-- the best level: the number says whether there is one
abbrev pub told_best : (code number price : ℕ) → Float → Queried (Option Level)
told_best code number price size = told code number (cond (eqb number 0) None (Some (record { price = price; size = size })))
