use mathlib.Core.Path.{ap, ◌∙◌}
use Rattle.rules.specs.Lists.{any}
use Rattle.rules.specs.Quantities.{same}
use Rattle.rules.specs.Lines.{Connection}
use Rattle.store.proofs.ConnLaws.{conn-said, fit_words}
use Rattle.store.proofs.conns.holds_print.Goals as goal

pub holds_print-requires : goal.holds_print-requires
holds_print-requires c = rw c.line_words.ensures (fit_words c.args.s.now c.args.i c.requires)

pub returns : goal.returns
returns c = c.holds_print.ensures ∙ ap (λ (x : Connection). any (λ p. same p.0 c.args.key) x.held) (conn-said c.args.s.now c.args.i c.requires.at.here _ c.line_words.ensures)
