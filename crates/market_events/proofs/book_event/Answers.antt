use mathlib.Core.Path.{sym}
use Rattle.std.proofs.lemmas.Result.{err_from_is_err_and}
use Rattle.store.proofs.ConnLaws.{lined-sound}
use Rattle.market_snapshots.proofs.SnapshotLaws.{counted-here, counted-past, line_at}
use Rattle.market_events.proofs.CallLaws.{book-lined, book-kept, book-refused, book-roomless, book-past, book-found}
use Rattle.market_events.proofs.book_event.Goals as goal

pub find-i-requires : goal.find-i-requires
find-i-requires c =
    lined-sound c.args.s.now c.requires.sound

pub returns-then-count-i : goal.returns-then-count-i
returns-then-count-i c =
    book-found c.args.conn c.find-i.result c.args.key c.args.message c.args.t c.find-i.ensures
    (book-past c.find-i.result c.args.key c.args.message c.args.t c.requires.sound (counted-past c.count.ensures c.if-count-i.true))

pub returns-in_err-room-in-Err : goal.returns-in_err-room-in-Err
returns-in_err-room-in-Err c =
    let p = err_from_is_err_and c.from_residual.result c.from_residual.ensures.1 in
    rw (p.1, p.2)
    (book-found c.args.conn c.find-i.result c.args.key c.args.message c.args.t c.find-i.ensures
    (book-refused c.args.key c.args.message c.args.t c.requires.sound (counted-here c.count.ensures c.if-count-i.false) c.step_of-stepped.result
    (c.step_of-stepped.ensures c.args.message) c.in-Err.is _ c.in_err-room-in-Err.ensures))

pub returns-in-Err : goal.returns-in-Err
returns-in-Err c =
    absurd
    (book-roomless c.args.key c.args.message c.args.t c.requires.sound (counted-here c.count.ensures c.if-count-i.false) c.step_of-stepped.result
    (c.step_of-stepped.ensures c.args.message) c.in-Err.is (sym c.in_ok-room-in-Err.ensures))

pub set_line-requires : goal.set_line-requires
set_line-requires c =
    line_at c.requires.sound (counted-here c.count.ensures c.if-count-i.false)

pub returns-in-Duplicate : goal.returns-in-Duplicate
returns-in-Duplicate c =
    book-found c.args.conn c.find-i.result c.args.key c.args.message c.args.t c.find-i.ensures
    (book-lined c.args.key c.args.message c.args.t c.requires.sound (counted-here c.count.ensures c.if-count-i.false) c.step_of-stepped.result
    (c.step_of-stepped.ensures c.args.message) c.in-Ok.is c.in-Duplicate.is c.set_line.auto.s c.set_line.ensures)

pub returns-in-Ignored : goal.returns-in-Ignored
returns-in-Ignored c =
    book-found c.args.conn c.find-i.result c.args.key c.args.message c.args.t c.find-i.ensures
    (book-kept c.args.key c.args.message c.args.t c.requires.sound (counted-here c.count.ensures c.if-count-i.false) c.step_of-stepped.result
    (c.step_of-stepped.ensures c.args.message) c.in-Ok.is c.in-Ignored.is)
