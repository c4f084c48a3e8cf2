-- A print that is put out.
use Rattle.std.specs.Prelude.{[], ℕ, ◌-◌}
use Rattle.rules.specs.Quantities.{Key, print_out}
use Rattle.rules.specs.Prints.{apply_print}
use Rattle.rules.specs.Lines.{Market, with_prints}
use Rattle.rules.specs.Entering.{begin, put_out}
use Rattle.rules.specs.Calls.{Outcome, did, apply}

-- d delivered, a applied
abbrev pub put_print : ℕ → Key → ℕ → ℕ → ℕ → Market → Outcome
put_print c k msg d a m = did apply [] (put_out (print_out c k msg (d - a)) (begin (with_prints (apply_print k d m.prints) m)))
