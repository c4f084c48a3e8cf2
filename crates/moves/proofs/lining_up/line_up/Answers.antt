use mathlib.Core.Bool.{false}
use Prim.Native.Nat.{◌+◌, ◌-◌}
use native.Mathlib.Omega.{arith}
use Rattle.store.proofs.MarketLaws.{log-ends}
use Rattle.store.proofs.EntryLaws.{counts}
use Rattle.store.proofs.ConnLaws.{fits-sound}
use Rattle.moves.proofs.RoomLaws.{roomy, items-room}
use Rattle.moves.proofs.LineUpLaws.{enter-room, line-up-done}
use Rattle.moves.proofs.lining_up.line_up.Goals as goal

pub end-requires : goal.end-requires
end-requires c = let s = c.requires.0.sound in (s.sized.header, (counts s).numbers)

pub overflow_sub-behind : goal.overflow_sub-behind
overflow_sub-behind c =
    let a = c.requires.1.upto in
    let b = log-ends c.args.s.now in
    omega (arith, c.end.ensures)

pub events_held-events-requires : goal.events_held-events-requires
events_held-events-requires c =
    fits-sound c.args.s.now c.requires.0.sound c.args.i c.requires.1.here

pub overflow_add-next : goal.overflow_add-next
overflow_add-next c =
    let a = c.requires.1.upto in
    let b = roomy c.requires.0.sound c.requires.1.here in
    omega (arith, c.events_held-events.ensures)

pub overflow_add-place : goal.overflow_add-place
overflow_add-place c =
    let a = c.requires.1.event in
    let b = roomy c.requires.0.sound c.requires.1.here in
    let e = log-ends c.args.s.now in
    omega (arith, c.end.ensures)

pub push_events-m-requires : goal.push_events-m-requires
push_events-m-requires c = items-room c.requires.0 c.requires.1.here

pub enter-requires : goal.enter-requires
enter-requires c =
    enter-room c.requires.0 c.requires.1 _ c.args.t (c.args.place.event + (c.end.result - c.args.place.number)) c.push_events-m.ensures c.push_events-m.auto.out

pub returns : goal.returns
returns c =
    line-up-done c.requires.0 c.requires.1 c.args.t c.end.result c.events_held-events.result c.end.ensures c.events_held-events.ensures c.push_events-m.ensures (λ entry. c.enter.ensures entry _ false false c.lined_up.ensures)
