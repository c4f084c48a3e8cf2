-- A call on a sound store: answer and words are the rules', with all their refusals.
use Rattle.std.specs.Prelude.{List, ℕ, ◌/◌, length}
use Rattle.rules.specs.Refusals.{Call, step}
use Rattle.rules.specs.Answers.{Said}
use Rattle.store.specs.Store.{market_of}
use Rattle.market.specs.Lent.{Lent, Answers}

-- how many records an output list takes, and how many reports a list of reports
abbrev pub records : List ℕ → ℕ
records v = length v / 7

abbrev pub report_room : List ℕ → ℕ
report_room v = length v / 3

abbrev pub Steps : Call → Lent → Said → Lent → Type 0
Steps x before answer after = Answers (step x (market_of before.store)) before answer after
