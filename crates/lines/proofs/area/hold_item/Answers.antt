use Rattle.lines.proofs.Laws.{held-is}
use Rattle.lines.proofs.AreaLaws.{hold-item-ready, hold-item-done}
use Rattle.lines.specs.Line.{held_of}
use native.Mathlib.Omega.{arith}
use mathlib.Core.Path.{ap}
use Rattle.lines.proofs.area.hold_item.Goals as goal

pub put_item-requires : goal.put_item-requires
put_item-requires c = let l = c.line-line in hold-item-ready c.args.h c.args.area.now c.requires.0.size l.result l.ensures c.requires.1.0 _ (held-is l.result _ c.held.ensures) _ c.requires.1.1

pub more-requires : goal.more-requires
more-requires c = let k = c.requires.0.size in omega (arith, ap held_of c.line-line.ensures)

pub returns : goal.returns
returns c = let p = c.put_item in let l = c.line-line in hold-item-done c.args.h c.args.area.now c.requires.0.size l.result _ l.ensures _ (held-is l.result _ c.held.ensures) _ _ (let k = p.auto.items in omega arith) p.ensures c.more.ensures _ c.set_line.ensures
