use mathlib.Core.Path.{ap, ◌∙◌}
use native.Mathlib.Omega.{arith}
use Rattle.lines.specs.Area.{print_count}
use Rattle.store.proofs.LineFrame.{line-length}
use Rattle.store.proofs.ConnLaws.{prints-counted}
use Rattle.store.proofs.conns.prints_held.Goals as goal

pub prints_held-requires : goal.prints_held-requires
prints_held-requires c = rw c.line_words.ensures (omega (arith, line-length _ _ c.requires))

pub returns : goal.returns
returns c = c.prints_held.ensures ∙ ap print_count c.line_words.ensures ∙ prints-counted _ _ c.requires.here
