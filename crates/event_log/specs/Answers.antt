-- The answers that stand for what the rules say of a log.
use Rattle.std.specs.Prelude.{Option, Some, None, Bool, ℕ, leb}
use Rattle.rules.specs.Quantities.{Key, same, age, stamped, quiet_after}

-- whether a key is the log's, where the log has one
abbrev pub match_answer : Key → Option Key → Option Bool
match_answer k None = None
match_answer k (Some there) = Some (same there k)

-- quiet by a stamp, or by `never` where it has not come
abbrev pub quiet_stamp : Option ℕ → ℕ → Bool → Bool
quiet_stamp at now never = stamped never (λ t. leb quiet_after (age now t)) at
