use native.Mathlib.Omega.{arith}
use Rattle.member_order.specs.Names.{name_in}
use Rattle.member_order.proofs.Words.{words-coded, sorted-places}
use Rattle.member_order.proofs.sort.sort.Goals as goal

pub sort_words-count-requires : goal.sort_words-count-requires
sort_words-count-requires c =
    let m = c.load.ensures in
    (omega (arith, m.size), omega arith, words-coded (name_in c.args.names.now) c.args.places.now _ _ _ c.requires.0 m)

pub returns : goal.returns
returns c =
    sorted-places (name_in c.args.names.now) c.args.places.now _ _ _ c.requires.0 c.load.ensures _ _ _ c.sort_words-count.ensures c.store.ensures
