-- What a change of a line's value makes of the line.
use Rattle.std.specs.Prelude.{◌≡◌, List, ℕ}
use Rattle.rules.specs.Lines as Rules
use Rattle.lines.specs.declared.Line.{Line}
use Rattle.lines.specs.Line.{line_of}

-- it makes g of the line, whatever its items are
abbrev pub Makes : (Line → Line → Type 0) → (Rules.Line → Rules.Line) → Type 0
Makes change g = (l r : Line) → change l r → (w : List ℕ) → line_of r w ≡ g (line_of l w)
