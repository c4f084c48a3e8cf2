use Rattle.store.proofs.ConnLaws.{fits-sound, line-at-kept}
use Rattle.market_tick.proofs.TurnLaws.{fails-done}
use Rattle.market_tick.proofs.fails.Goals as goal

pub conn_at-conn-requires : goal.conn_at-conn-requires
conn_at-conn-requires c = let p = c.requires.sound in (fits-sound _ p.0 _ p.1.0).at

pub drop_prints-requires : goal.drop_prints-requires
drop_prints-requires c = let p = c.requires.sound in ((fits-sound _ p.0 _ p.1.0).at, p.1.1.0)

pub set_line-requires : goal.set_line-requires
set_line-requires c =
    let p = c.requires.sound in
    line-at-kept _ _ c.args.i _ c.drop_prints.ensures c.args.i (fits-sound _ p.0 _ p.1.0).at

pub returns : goal.returns
returns c =
    fails-done c.args.k c.requires.stands c.requires.sound.1.0
    c.conn_at-conn.ensures
    c.drop_prints.ensures
    c.set_line.ensures
    c.put_report-m.ensures
