use native.Mathlib.Omega.{arith}
use Rattle.store.proofs.TableLaws.{tabled}
use Rattle.market_prints.proofs.PrintingLaws.{row-refused, count-refused, deliver-ready, counted_ready, counted-done}
use Rattle.market_prints.proofs.deliver.Goals as goal

pub find-found-requires : goal.find-found-requires
find-found-requires c = tabled c.requires.0.sound

pub no_row-requires : goal.no_row-requires
no_row-requires c = (tabled c.requires.0.sound, c.find-found.ensures)

pub returns-then-no_row : goal.returns-then-no_row
returns-then-no_row c =
    row-refused c.args.conn c.args.key c.args.message c.args.t c.requires c.no_row.ensures c.if-no_row.true

pub delivered-delivered-requires : goal.delivered-delivered-requires
delivered-delivered-requires c =
    (tabled c.requires.0.sound, c.find-found.ensures)

pub returns-then-delivered-ge-MAX_COUNT : goal.returns-then-delivered-ge-MAX_COUNT
returns-then-delivered-ge-MAX_COUNT c =
    count-refused c.args.conn c.args.key c.args.message c.args.t c.requires c.no_row.ensures c.if-no_row.false c.delivered-delivered.ensures (omega (arith, c.if-delivered-ge-MAX_COUNT.true))

pub applied-applied-requires : goal.applied-applied-requires
applied-applied-requires c =
    (tabled c.requires.0.sound, c.find-found.ensures.key)

pub deliver-place-requires : goal.deliver-place-requires
deliver-place-requires c =
    let r =
    deliver-ready c.args.conn c.args.key c.args.message c.args.t c.requires c.no_row.ensures c.if-no_row.false c.delivered-delivered.ensures
    (omega (arith, c.if-delivered-ge-MAX_COUNT.false)) in
    record { tabled = (r.0, c.find-found.ensures); s_value = r.1.0; s_bound = r.1.1 }

pub counted-requires : goal.counted-requires
counted-requires c =
    record { roomy = counted_ready c.args.conn c.args.key c.args.message c.args.t c.requires c.no_row.ensures c.if-no_row.false c.delivered-delivered.ensures (omega (arith, c.if-delivered-ge-MAX_COUNT.false)) c.deliver-place.ensures.moved; key_found = c.deliver-place.ensures.key_found }

pub returns : goal.returns
returns c =
    counted-done c.args.conn c.args.key c.args.message c.args.t c.requires c.no_row.ensures c.if-no_row.false c.delivered-delivered.ensures (omega (arith, c.if-delivered-ge-MAX_COUNT.false)) c.deliver-place.ensures.moved c.applied-applied.ensures c.deliver-place.auto.s c.counted.ensures
