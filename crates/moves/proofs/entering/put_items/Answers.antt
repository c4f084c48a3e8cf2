use mathlib.Core.Path.{refl, ◌∙◌}
use native.Mathlib.Omega.{arith}
use Rattle.moves.proofs.PutLaws.{put-none, item-ready, put-ready, put_next, put_all}
use Rattle.moves.proofs.entering.put_items.Goals as goal

pub loop-j-init : goal.loop-j-init
loop-j-init c =
    (refl, (refl, put-none _ c.args.t c.requires.fits.at.lined.sized))

pub item_at-item-requires : goal.item_at-item-requires
item_at-item-requires c =
    let held = c.held-j-end.ensures in
    let inv = c.loop-j.invariant in
    item-ready c.args.i c.args.t c.loop-j.j c.requires (omega arith) inv.1.0 inv.1.1

pub put_item-m-requires : goal.put_item-m-requires
put_item-m-requires c =
    let held = c.held-j-end.ensures in
    let inv = c.loop-j.invariant in
    put-ready c.args.i c.args.t c.loop-j.j c.requires (omega arith) inv.1.0 inv.1.1

pub loop-j-preserved : goal.loop-j-preserved
loop-j-preserved c =
    let held = c.held-j-end.ensures in
    let inv = c.loop-j.invariant in
    (c.put_item-m.auto.s ∙ inv.0, (c.put_item-m.auto.out ∙ inv.1.0, put_next c.args.i c.args.t c.loop-j.j c.requires (omega arith) inv.1.0 inv.1.1 _ _ c.conn_at-conn.ensures c.item_at-item.ensures c.put_item-m.ensures))

pub returns : goal.returns
returns c =
    let held = c.held-j-end.ensures in
    let inv = c.loop-j.invariant in
    put_all _ c.args.t c.loop-j.j _ (omega arith) inv.1.1
