-- Each point holds by computing the rules' alignment.
use borrow.Author.Rules.{rules}
use Rattle.rules.specs.Place.{fits, counts, alignment}
use Rattle.event_log.specs.Log.{entry_place}
use Rattle.place.specs.Items.{items_in}
use Rattle.place_points.proofs.main.Goals as goal

pub expect_place-requires : goal.expect_place-requires
unfolding alignment counts fits entry_place items_in
expect_place-requires c = search rules

pub expect_place-requires-2 : goal.expect_place-requires-2
unfolding alignment counts fits entry_place items_in
expect_place-requires-2 c = search rules

pub expect_place-requires-3 : goal.expect_place-requires-3
unfolding alignment counts fits entry_place items_in
expect_place-requires-3 c = search rules

pub expect_place-requires-4 : goal.expect_place-requires-4
unfolding alignment counts fits entry_place items_in
expect_place-requires-4 c = search rules
