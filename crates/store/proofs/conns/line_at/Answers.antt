use Rattle.store.proofs.LineFrame.{line-length}
use native.Mathlib.Omega.{arith}
use mathlib.Core.Path.{ap, ◌∙◌}
use Rattle.lines.specs.Area.{head_line}
use Rattle.store.proofs.conns.line_at.Goals as goal

pub line-requires : goal.line-requires
line-requires c =
    rw c.line_words.ensures (omega (arith, line-length _ _ c.requires))

pub returns : goal.returns
returns c = c.line.ensures ∙ ap head_line c.line_words.ensures
