use native.Mathlib.Omega.{arith}
use Rattle.rows.proofs.Ordered.{walked_more, walked-past, table-rises, table-falls}
use Rattle.rows.proofs.tables.apart.Goals as goal

pub returns-then-u-k : goal.returns-then-u-k
returns-then-u-k c =
    walked-past c.args.three c.args.b c.args.u c.args.t.now c.loop-i.k c.loop-i.i c.requires.rising c.requires.rising_2 c.loop-i.invariant (omega arith)
    (omega arith)

pub returns-in-Ok : goal.returns-in-Ok
returns-in-Ok c =
    let s = c.args in
    table-falls s.three s.b s.u s.t.now c.loop-i.i _ (omega arith) c.seek_new.result c.seek_new.ensures
    c.in-Ok.is

pub loop-i-preserved : goal.loop-i-preserved
loop-i-preserved c =
    walked_more c.args.three c.args.b c.args.u c.args.t.now c.loop-i.k c.loop-i.i _ c.requires.rising_2 c.loop-i.invariant (omega arith)
    c.seek_new.result
    c.seek_new.ensures
    c.in-Err.is

pub returns : goal.returns
returns c =
    table-rises c.args.three c.args.b c.args.u c.args.t.now c.loop-i.i c.requires.rising c.requires.rising_2 c.loop-i.invariant.upto (omega arith)
