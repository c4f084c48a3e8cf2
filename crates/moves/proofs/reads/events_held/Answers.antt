use mathlib.Core.Path.{ap, ◌∙◌}
use lib.ListN.{length}
use Rattle.rules.specs.Lines.{events}
use Rattle.place.specs.Items.{items_in}
use native.Mathlib.Omega.{arith}
use Rattle.store.proofs.ConnLaws.{items-said, items-inside}
use Rattle.moves.proofs.reads.events_held.Goals as goal

pub count_events-requires : goal.count_events-requires
count_events-requires c =
    rw c.items.ensures (omega (arith, items-inside _ _ c.requires, c.held-n.ensures))

pub returns : goal.returns
returns c =
    let n = c.held-n in
    c.count_events.ensures
    ∙ ap (λ x. length (events (items_in n.result x))) c.items.ensures
    ∙ ap (λ x. length (events x)) (items-said c.args.s.now c.args.i c.requires.at.here n.result n.ensures)
