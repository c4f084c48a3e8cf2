use mathlib.Core.Path.{ap, ◌∙◌}
use lib.ListN.{get_or}
use Rattle.rules.specs.Lines.{Connection}
use Rattle.lines.specs.Area.{no_print}
use Rattle.store.proofs.ConnLaws.{conn-said, fit_words, prints-counted}
use Rattle.store.proofs.conns.print_at.Goals as goal

pub print_at-requires : goal.print_at-requires
print_at-requires c = rw c.line_words.ensures (fit_words c.args.s.now c.args.i c.requires.0, rw (prints-counted c.args.s.now c.args.i c.requires.0.at.here) c.requires.1)

pub returns : goal.returns
returns c = c.print_at.ensures ∙ ap (λ (x : Connection). get_or x.held c.args.j no_print) (conn-said c.args.s.now c.args.i c.requires.0.at.here _ c.line_words.ensures)
