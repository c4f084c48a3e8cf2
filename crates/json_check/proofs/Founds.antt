-- Of two faults the first.
use mathlib.Core.Path.{◌≡◌}
use Rattle.std.specs.Prelude.{Result, Ok, Err}
use Rattle.std.specs.Result.{result_and}
use Rattle.json_text.specs.Refusals.{first}
use Rattle.json_check.specs.declared.Refusal.{Refusal}
use Rattle.json_check.specs.Numbers.{number_of}

pub and_first : (a b r : Result (Unit {0}) Refusal) → r ≡ result_and a b → number_of r ≡ first (number_of a) (number_of b)
unfolding first
and_first (Ok u) b r e = rw e
and_first (Err Refusal.NoText) b r e = rw e
and_first (Err Refusal.Number) b r e = rw e
and_first (Err Refusal.Depth) b r e = rw e
