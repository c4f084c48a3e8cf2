use mathlib.Core.Path.{◌≡◌, sym, ◌∙◌}
use Prim.Native.Nat.{◌-◌}
use native.Mathlib.Omega.{arith}
use borrow.Author.Tests.{eq-eqb, ne_eqb}
use Rattle.store.proofs.ConnLaws.{of_conn, find-here, find-over, find-end}
use Rattle.store.proofs.conns.find.Goals as goal

pub loop-i-init : goal.loop-i-init
loop-i-init c = omega arith

pub returns-then-conn_at-conn : goal.returns-then-conn_at-conn
returns-then-conn_at-conn c =
    find-here _ c.loop-i.i (of_conn c.args.conn) (omega arith) (eq-eqb _ _ (sym c.conn_at.ensures ∙ c.if-conn_at-conn.true)) ∙ sym c.loop-i.invariant

pub loop-i-preserved : goal.loop-i-preserved
loop-i-preserved c =
    (c.loop-i.invariant ∙ find-over _ c.loop-i.i (of_conn c.args.conn) (omega arith) (ne_eqb _ _ (λ q. c.if-conn_at-conn.false (c.conn_at.ensures ∙ q))))

pub returns : goal.returns
returns c =
    let e : c.count-n.result ≡ c.loop-i.i = omega arith in
    e ∙ find-end _ c.loop-i.i (of_conn c.args.conn) (omega arith) ∙ sym c.loop-i.invariant
