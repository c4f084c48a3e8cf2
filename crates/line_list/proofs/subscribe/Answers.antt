use Rattle.words.proofs.Cases.{says-yes, says-no}
use Rattle.store.proofs.ConnLaws.{lined-sound}
use Rattle.line_list.proofs.FoundLaws.{Stands, replaced, room-found, put_in}
use Rattle.line_list.proofs.subscribe.Goals as goal

pub place_of-i-requires : goal.place_of-i-requires
place_of-i-requires c = lined-sound _ c.requires.sound

pub stands_at-requires : goal.stands_at-requires
stands_at-requires c = lined-sound _ c.requires.sound

pub put_waiting-requires : goal.put_waiting-requires
put_waiting-requires c =
    let stands = says-yes (Stands _ c.requires.sound c.place_of-i.result c.args.conn) c.stands_at.ensures c.if-stands_at.true in
    record { lined = lined-sound _ c.requires.sound; here = stands.0 }

pub insert-requires : goal.insert-requires
insert-requires c =
    let p = c.place_of-i in
    let absent = says-no (Stands _ c.requires.sound p.result c.args.conn) c.stands_at.ensures c.if-stands_at.false in
    room-found _ c.requires.sound _ c.args.conn p.ensures absent c.requires.s_value

pub returns-then-stands_at : goal.returns-then-stands_at
returns-then-stands_at c =
    let p = c.place_of-i in
    let stands = says-yes (Stands _ c.requires.sound p.result c.args.conn) c.stands_at.ensures c.if-stands_at.true in
    replaced _ c.requires.sound _ c.args.conn p.ensures c.args.limit c.args.t stands _ c.put_waiting.ensures

pub returns-else-stands_at : goal.returns-else-stands_at
returns-else-stands_at c =
    let p = c.place_of-i in
    let absent = says-no (Stands _ c.requires.sound p.result c.args.conn) c.stands_at.ensures c.if-stands_at.false in
    put_in _ c.requires.sound _ c.args.conn p.ensures absent c.args.limit c.args.t _ c.insert.ensures
