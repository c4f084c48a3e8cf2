-- A source of the code, as the rules write it.
use Rattle.std.specs.Prelude.{Option, None, Some, ℕ}
use Rattle.market.specs.declared.Source.{Source}
use Rattle.lines.specs.Line.{claim_words}

abbrev pub source_of : Option Source → Option (ℕ × (ℕ × ℕ))
source_of None = None
source_of (Some s) = Some (s.line, claim_words s.claim)
