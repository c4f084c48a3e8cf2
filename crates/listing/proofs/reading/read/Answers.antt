use lib.ListN.{get_or}
use borrow.Author.Tests.{lt-ltb, le-ltb, eq-eqb, ne_eqb}
use Rattle.listing.specs.Record.{record_of}
use Rattle.listing.proofs.reading.read.Goals as goal
use Rattle.listing.proofs.reading.read.Goals.{else-b-eq77-via-then-b-eq77+else-b-eq71, else-b-eq77-via-else-b-eq77}

pub returns-then-b-lt44 : goal.returns-then-b-lt44
unfolding record_of
returns-then-b-lt44 c = rw (lt-ltb _ _ c.if-b-lt44.true)

pub returns-then-b-eq71 : goal.returns-then-b-eq71
unfolding record_of
returns-then-b-eq71 c =
    let b = c.args.b.now in
    rw (le-ltb _ _ c.if-b-lt44.false, eq-eqb (get_or b 0 0) 0x4D c.if-b-eq77.true, eq-eqb (get_or b 1 0) 0x47 c.if-b-eq71.true, c.call_of.ensures)

pub returns : goal.returns
unfolding record_of
returns c =
    elim c.else-b-eq77.branch [
      | else-b-eq77-via-then-b-eq77+else-b-eq71 w ↦ rw (le-ltb _ _ c.if-b-lt44.false, eq-eqb _ _ w.if-b-eq77.true, ne_eqb _ _ w.if-b-eq71.false)
      | else-b-eq77-via-else-b-eq77 w ↦ rw (le-ltb _ _ c.if-b-lt44.false, ne_eqb _ _ w.if-b-eq77.false)
    ]
