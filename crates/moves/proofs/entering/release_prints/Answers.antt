use mathlib.Core.Path.{refl, ◌∙◌}
use native.Mathlib.Omega.{arith}
use Rattle.moves.proofs.ReleaseLaws.{release-none, print-ready, release-ready, release-next, release-all}
use Rattle.moves.proofs.entering.release_prints.Goals as goal

pub loop-j-init : goal.loop-j-init
loop-j-init c =
    (refl, (refl, release-none _ c.requires.tabled.sized))

pub print_at-print-requires : goal.print_at-print-requires
print_at-print-requires c =
    let held = c.prints_held-j-end.ensures in
    let inv = c.loop-j.invariant in
    print-ready c.args.i c.loop-j.j c.requires (omega arith) inv.1.0 inv.1.1

pub release_print-m-requires : goal.release_print-m-requires
release_print-m-requires c =
    let held = c.prints_held-j-end.ensures in
    let inv = c.loop-j.invariant in
    release-ready c.args.i c.loop-j.j c.requires (omega arith) inv.1.0 inv.1.1

pub loop-j-preserved : goal.loop-j-preserved
loop-j-preserved c =
    let held = c.prints_held-j-end.ensures in
    let inv = c.loop-j.invariant in
    (c.release_print-m.auto.s ∙ inv.0, (c.release_print-m.auto.out ∙ inv.1.0, release-next c.args.i c.loop-j.j c.requires (omega arith) inv.1.0 inv.1.1 _ _ c.conn_at-conn.ensures c.print_at-print.ensures c.release_print-m.ensures))

pub returns : goal.returns
returns c =
    let held = c.prints_held-j-end.ensures in
    let inv = c.loop-j.invariant in
    release-all _ c.loop-j.j _ (omega arith) inv.1.1
