-- The refusals by their numbers in request 4 of document 02.
use Rattle.std.specs.Prelude.{ℕ, Result, Ok, Err}
use Rattle.json_check.specs.declared.Refusal.{Refusal}

-- "15 longer than 32,768 bytes or not one JSON text; 16 number outside the rule; 17 arrays and objects nested deeper than 16"
abbrev pub number : Refusal → ℕ
number Refusal.NoText = 15
number Refusal.Number = 16
number Refusal.Depth = 17

-- 0 where there is no refusal
abbrev pub number_of : Result (Unit {0}) Refusal → ℕ
number_of (Ok u) = 0
number_of (Err e) = number e
