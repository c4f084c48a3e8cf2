use native.Mathlib.Omega.{arith}
use mathlib.Core.Bool.{false}
use Rattle.rules.specs.Entering.{sweep, try_line_up}
use Rattle.rules.proofs.SoundMoves.{try_line_up-sound}
use Rattle.store.proofs.ConnLaws.{fits-sound}
use Rattle.moves.proofs.DoesLaws.{does-then, ready-then}
use Rattle.market_tick.proofs.TurnLaws.{does-more, aligned-done}
use Rattle.market_tick.proofs.align.Goals as goal

pub conn_at-conn-requires : goal.conn_at-conn-requires
conn_at-conn-requires c = let r = c.requires in (fits-sound _ r.ready.sound _ r.here).at

pub align_pending-n-requires : goal.align_pending-n-requires
align_pending-n-requires c =
    let f = c.try_align-lined in
    ready-then (try_line_up false c.args.i c.args.t) (λ Z k e w. try_line_up-sound Z false c.args.i c.args.t k w) f.auto.out f.ensures
    c.requires.ready

pub aligned-requires : goal.aligned-requires
aligned-requires c =
    let a = does-more _ c.try_align-lined.ensures in
    let b = does-more _ c.align_pending-n.ensures in
    (c.requires.reports, omega (arith, a, b))

pub returns : goal.returns
returns c =
    let i = c.args.i in
    let t = c.args.t in
    let l = c.requires.ready.room in
    aligned-done c.args.s.now _ _ _ _ _ _ _ i _ _ (λ k. sweep t (try_line_up false i t k))
    c.conn_at-conn.ensures
    (does-then (try_line_up false i t) (sweep t) (omega arith)
    c.try_align-lined.ensures
    c.align_pending-n.ensures)
    c.aligned.ensures
