-- What each case of an answer says: a refusal's number, or 01's word for it with the counts of its records and reports.
use Rattle.std.specs.Prelude.{Option, None, Some, Result, Ok, Err, List, Bool, ℕ, length}
use Rattle.rules.specs.declared.Step.{Step}
use Rattle.rules.specs.declared.refusal.Refusal.{Refusal}
use Rattle.rules.specs.declared.Lost.{Lost}
use Rattle.rules.specs.declared.Ticked.{Ticked}
use Rattle.rules.specs.Calls.{Answer, done, apply, duplicate, held, ignored, diverged, failed, kept, gone, rebuild, Outcome, refused, did}

pub data Said : Type 0 where
  number : ℕ → Said
  word : (answer : Answer) (records reports : ℕ) → Said

-- what the rules make of a call
abbrev pub said_by : Outcome → Said
said_by (refused n) = number n
said_by (did a rs w) = word a (length w.out) (length rs)

-- a refusal's number, as 01 and request 5 count them
abbrev pub number_of : Refusal → ℕ
number_of Refusal.Unsound = 1
number_of Refusal.Limits = 2
number_of Refusal.Room = 3
number_of Refusal.Lines = 4
number_of Refusal.LogFull = 5
number_of Refusal.AreaFull = 6
number_of Refusal.NoRow = 7
number_of Refusal.CountFull = 8
number_of Refusal.NoNumber = 9
number_of Refusal.Token = 10
number_of Refusal.ViewAnswers = 11
number_of Refusal.LineLimit = 18

abbrev pub of_step : Result Step Refusal → Said
of_step (Ok (Step.Apply n)) = word apply n 0
of_step (Ok Step.Duplicate) = word duplicate 0 0
of_step (Ok Step.Held) = word held 0 0
of_step (Ok Step.Ignored) = word ignored 0 0
of_step (Ok Step.Diverged) = word diverged 0 0
of_step (Ok Step.Failed) = word failed 0 0
of_step (Err r) = number (number_of r)

abbrev pub of_lost : Result Lost Refusal → Said
of_lost (Ok Lost.Kept) = word kept 0 0
of_lost (Ok Lost.Gone) = word gone 0 0
of_lost (Ok (Lost.Rebuild n)) = word rebuild n 0
of_lost (Err r) = number (number_of r)

abbrev pub of_ticked : Result Ticked Refusal → Said
of_ticked (Ok t) = word done t.records t.reports
of_ticked (Err r) = number (number_of r)

-- the answer of setup, a subscribe and a reset
abbrev pub of_changed : Result Unit Refusal → Said
of_changed (Ok u) = word done 0 0
of_changed (Err r) = number (number_of r)

-- what a query or a view says: a refusal's number, or a value
pub data Queried (A : Type 0) : Type 0 where
  refusal : ℕ → Queried A
  value : A → Queried A

-- a query's value is yes or no
abbrev pub of_asked : Result Bool Refusal → Queried Bool
of_asked (Ok b) = value b
of_asked (Err r) = refusal (number_of r)

-- a view's value is how many messages it wrote
abbrev pub of_viewed : Result ℕ Refusal → Queried ℕ
of_viewed (Ok n) = value n
of_viewed (Err r) = refusal (number_of r)

-- what the rules make of a view
abbrev pub viewed : Option (List ℕ) → Queried ℕ
viewed None = refusal 3
viewed (Some ms) = value (length ms)
