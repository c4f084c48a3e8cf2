use native.Mathlib.Omega.{arith}
use Rattle.queries.proofs.QueryLaws.{view-short, view-met}
use Rattle.queries.proofs.view.Goals as goal

pub returns-then-list-held_limit : goal.returns-then-list-held_limit
returns-then-list-held_limit c = let a = c.args in view-short a.conn a.s.now a.list.now c.in_ok-check.ensures (omega arith)

pub returns : goal.returns
returns c = let a = c.args in view-met a.conn c.view.result a.s.now a.list.now c.view.new.list c.in_ok-check.ensures (omega arith) c.view.ensures
