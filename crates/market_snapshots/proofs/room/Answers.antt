use native.Mathlib.Omega.{arith}
use Rattle.store.proofs.ConnLaws.{lined-sound, items-sound}
use Rattle.store.proofs.EntryLaws.{counts}
use Rattle.market_snapshots.proofs.SnapshotLaws.{full-room, full-5, full-9, full-0}
use Rattle.market_snapshots.proofs.room.Goals as goal

pub held_items-held-requires : goal.held_items-held-requires
held_items-held-requires c =
    (lined-sound c.args.s.now c.requires, items-sound c.args.s.now c.requires)

pub overflow_add-all : goal.overflow_add-all
overflow_add-all c =
    omega (arith, full-room c.args.s.now c.count.result c.held_items-held.result c.count.ensures c.held_items-held.ensures c.requires)

pub returns-then-limits-all : goal.returns-then-limits-all
returns-then-limits-all c =
    full-5 c.args.s.now c.count.result c.held_items-held.result c.count.ensures c.held_items-held.ensures c.limits.result
    c.limits.ensures c.if-limits-all.true

pub end-requires : goal.end-requires
end-requires c =
    (c.requires.sized.header, (counts c.requires).numbers)

pub returns-then-end-held-ge18446744073709551615 : goal.returns-then-end-held-ge18446744073709551615
returns-then-end-held-ge18446744073709551615 c =
    full-9 c.args.s.now c.count.result c.held_items-held.result c.count.ensures c.held_items-held.ensures c.limits.result
    c.limits.ensures c.if-limits-all.false c.end.result c.end.ensures c.if-end-held-ge18446744073709551615.true

pub returns : goal.returns
returns c =
    full-0 c.args.s.now c.count.result c.held_items-held.result c.count.ensures c.held_items-held.ensures c.limits.result
    c.limits.ensures c.if-limits-all.false c.end.result c.end.ensures c.if-end-held-ge18446744073709551615.false
