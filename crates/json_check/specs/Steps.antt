-- The code's places and answers, read as states.
use Rattle.std.specs.Prelude.{◌≡◌, Bool, List, reverse, ℕ, ◌≤◌, ◌<◌, length, take, drop, Option, Some, None}
use Rattle.json_text.specs.Refusals.{longest}
use Rattle.json_check.specs.declared.Place.{Place}
use Rattle.json_check.specs.declared.Step.{Step}
use Rattle.json_check.specs.Numbers.{number_of}
use Rattle.json_check.specs.Runs.{State, value, after, Next, go, done, bad}

abbrev pub stack : List Bool → ℕ → List Bool
stack opened depth = reverse (take depth opened)

abbrev pub value_at : List ℕ → List Bool → Place → State
value_at t opened p = value (stack opened p.depth) (drop p.at t) (number_of p.found)

abbrev pub after_at : List ℕ → List Bool → Place → State
after_at t opened p = after (stack opened p.depth) (drop p.at t) (number_of p.found)

abbrev pub next_of : List ℕ → List Bool → Option Step → Next
next_of t opened (Some (Step.Value p)) = go (value_at t opened p)
next_of t opened (Some (Step.After p)) = go (after_at t opened p)
next_of t opened (Some (Step.Done found)) = done (number_of found)
next_of t opened None = bad

-- a place in the text that has no more open brackets than bytes in front of it
pub record Inside (t : List ℕ) (p : Place) : Type 0 where
  pub fits : p.at ≤ length t
  pub shallow : p.depth ≤ p.at

pub record Ready (t : List ℕ) (opened : List Bool) (p : Place) : Type 0 where
  pub inside : Inside t p
  pub short : length t ≤ longest
  pub room : length t ≤ length opened

-- a step goes on behind the place at, or ends
abbrev pub Onward : List ℕ → ℕ → Option Step → Type 0
Onward t at (Some (Step.Value p)) = (at < p.at) × Inside t p
Onward t at (Some (Step.After p)) = (at < p.at) × Inside t p
Onward t at (Some (Step.Done found)) = Unit {0}
Onward t at None = Unit {0}

pub record Stepped (t : List ℕ) (opened : List Bool) (at : ℕ) (n : Next) (r : Option Step) : Type 0 where
  pub is : next_of t opened r ≡ n
  pub onward : Onward t at r
