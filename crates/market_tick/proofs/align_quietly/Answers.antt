use Rattle.rules.specs.Tick.{quiet_line_up}
use Rattle.rules.specs.Lines.{conn_at, items_of}
use Rattle.store.specs.Store.{market_of}
use Rattle.store.proofs.ConnLaws.{fits-sound}
use Rattle.market_tick.proofs.TurnLaws.{does-more, aligned-done}
use Rattle.market_tick.proofs.align_quietly.Goals as goal

pub conn_at-conn-requires : goal.conn_at-conn-requires
conn_at-conn-requires c = let r = c.requires.0 in (fits-sound _ r.ready.sound _ r.here).at

pub aligned-requires : goal.aligned-requires
aligned-requires c = (
  c.requires.0.reports,
  does-more _ c.quiet_line_up-n.ensures,
)

pub returns : goal.returns
returns c =
    let u = c.args.s.now in
    let i = c.args.i in
    aligned-done u _ _ _ _ _ _ _ i _ _ (quiet_line_up i c.args.t (items_of (conn_at i (market_of u)).line))
    c.conn_at-conn.ensures
    c.quiet_line_up-n.ensures
    c.aligned.ensures
