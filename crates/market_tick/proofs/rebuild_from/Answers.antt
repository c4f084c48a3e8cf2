use native.Mathlib.Omega.{arith}
use Rattle.store.proofs.ConnLaws.{fits-sound}
use Rattle.store.proofs.EntryLaws.{counts}
use Rattle.market_tick.proofs.TurnLaws.{does-more, lined-log, take-over-ready, take-over-left, rebuild-does, rebuild-done}
use Rattle.market_tick.proofs.rebuild_from.Goals as goal

pub conn_at-conn-requires : goal.conn_at-conn-requires
conn_at-conn-requires c = let r = c.requires.0 in (fits-sound _ r.ready.sound _ r.here).at

pub clear_log-requires : goal.clear_log-requires
clear_log-requires c = let r = c.requires.0 in record { sized = r.ready.sound.sized; s_bound = (counts r.ready.sound).numbers }

pub out_of_line-requires : goal.out_of_line-requires
out_of_line-requires c = lined-log c.requires.0.ready.sound c.clear_log.ensures

pub take_over-taken-requires : goal.take_over-taken-requires
take_over-taken-requires c =
    let r = c.requires.0 in
    take-over-ready c.args.i c.args.t c.clear_log.ensures c.out_of_line.ensures r.ready r.here c.requires.1

pub align_pending-n-requires : goal.align_pending-n-requires
align_pending-n-requires c =
    let r = c.requires.0 in
    let a = take-over-ready c.args.i c.args.t c.clear_log.ensures c.out_of_line.ensures r.ready r.here c.requires.1 in
    take-over-left c.args.i c.args.t a.0 a.1.0 c.take_over-taken.auto.out c.take_over-taken.ensures

pub overflow_sub-n : goal.overflow_sub-n
overflow_sub-n c = omega (arith, does-more _ c.take_over-taken.ensures, does-more _ c.align_pending-n.ensures)

pub returns : goal.returns
returns c =
    rebuild-done c.args.i c.args.t c.args.reports.now c.args.k c.conn_at-conn.ensures
    (rebuild-does c.args.i c.args.t c.clear_log.ensures c.out_of_line.ensures c.requires.0.ready c.requires.1 c.take_over-taken.ensures c.align_pending-n.ensures) c.put_report-m.ensures
