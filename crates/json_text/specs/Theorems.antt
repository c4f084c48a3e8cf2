-- What is proved of the grammar.
use Rattle.std.specs.Prelude.{◌≡◌, List, ℕ}
use Rattle.json_text.specs.Grammar.{Text}
use Rattle.json_text.specs.Values.{Value}

-- a text has at most one value
abbrev pub OneValue : Type 0
OneValue = (t : List ℕ) (v w : Value) → Text t v → Text t w → v ≡ w
