use Rattle.moves.proofs.RoomLaws.{items-room}
use Rattle.moves.proofs.StoreReads.{value-fits}
use Rattle.moves.proofs.EnterLaws.{end-ready, line-ready, enter-ready, taken-items, take-over-done}
use Rattle.moves.proofs.entering.take_over.Goals as goal

pub put_items-m-requires : goal.put_items-m-requires
put_items-m-requires c = items-room c.requires.0 c.requires.1.0

pub end-next-requires : goal.end-next-requires
end-next-requires c =
    end-ready c.args.i c.requires.0 c.requires.1.0 c.args.t c.put_items-m.auto.out c.put_items-m.ensures

pub line_at-requires : goal.line_at-requires
line_at-requires c =
    (line-ready c.args.i c.requires.0 c.requires.1.0 c.args.t c.put_items-m.auto.out c.put_items-m.ensures).at

pub items-requires : goal.items-requires
items-requires c =
    (line-ready c.args.i c.requires.0 c.requires.1.0 c.args.t c.put_items-m.auto.out c.put_items-m.ensures).at

pub taken_over-line-requires : goal.taken_over-line-requires
taken_over-line-requires c =
    value-fits _ _ (line-ready c.args.i c.requires.0 c.requires.1.0 c.args.t c.put_items-m.auto.out c.put_items-m.ensures) c.line_at.ensures c.items.ensures

pub enter-requires : goal.enter-requires
enter-requires c =
    enter-ready c.args.i c.requires.0 c.requires.1.0 c.args.t c.put_items-m.auto.out c.put_items-m.ensures c.requires.1.1

pub returns : goal.returns
returns c =
    take-over-done c.args.i c.requires.0 c.requires.1.0 c.args.t c.put_items-m.auto.out c.put_items-m.ensures _ _ c.end-next.ensures
    (taken-items c.args.i c.requires.0 c.requires.1.0 c.args.t c.put_items-m.auto.out c.put_items-m.ensures c.line_at.ensures c.items.ensures)
    (λ entry. c.enter.ensures entry _ _ _ c.taken_over-line.ensures)
