-- A depth in arrays, read as the book of both sides, and what the answers say.
use Rattle.std.specs.Prelude.{◌≡◌, List, ℕ, ◌-◌, ◌<◌, get_or, Float, Result, Ok, Err}
use Rattle.std.specs.Float.{nan}
use Rattle.words.specs.Words.{tab}
use Rattle.rules.specs.Answers.{Queried, refusal, value}
use Rattle.levels.specs.declared.Level.{Level}
use Rattle.levels.specs.declared.refusal.Refusal.{Refusal}
use Rattle.levels.specs.Depth.{Book}
use Rattle.levels.specs.Work.{level_in, number_of}
use Rattle.depth.specs.declared.Side.{Side}
use Rattle.depth.specs.declared.Depth.{Depth}

-- past the end of an array
abbrev pub blank : Level
blank = record { price = 0; size = nan }

abbrev pub levels_in : List Level → ℕ → List Level
levels_in ls count = tab count (λ i. get_or ls i blank)

-- the first count levels; places from the count on mean nothing
abbrev pub side_by_value : Side → List Level
side_by_value s = levels_in s.levels s.count

abbrev pub book_of : Depth → Book
book_of d = record { bids = side_by_value d.bids; asks = side_by_value d.asks }

-- the prices and the sizes of n of the first count levels, from the last to the first
abbrev pub Split : List Level → (count : ℕ) → List ℕ → List Float → (n : ℕ) → Type 0
Split ls count prices sizes n = (i : ℕ) → i < n → level_in prices sizes i ≡ get_or ls (count - 1 - i) blank

-- what an answer says: a refusal's number, or its value as f reads it
abbrev pub said : {A B : Type 0} → (B → A) → Result B Refusal → Queried A
said f (Ok b) = value (f b)
said f (Err e) = refusal (number_of e)
