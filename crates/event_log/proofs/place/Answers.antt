use mathlib.Core.Path.{sym}
use native.Mathlib.Omega.{arith}
use Rattle.event_log.proofs.Ring.{place_short, place-turned}
use Rattle.event_log.proofs.place.Goals as goal

pub returns-then-p-g : goal.returns-then-p-g
returns-then-p-g c = let a = c.args in (sym (place_short a.g a.front a.i c.if-p-g.true), omega arith)

pub returns-else-p-g : goal.returns-else-p-g
returns-else-p-g c = let a = c.args in (sym (place-turned a.g a.front a.i c.if-p-g.false), omega arith)
