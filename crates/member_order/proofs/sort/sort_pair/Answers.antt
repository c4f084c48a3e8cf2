use mathlib.Core.Path.{◌≡◌}
use mathlib.Core.Bool.{cond}
use Prim.Native.Nat.{◌+◌}
use borrow.Author.Tests.{eq-eqb, ne_eqb}
use lib.Dec.{eqb}
use native.Mathlib.Nat.{add-zero}
use native.Mathlib.Omega.{arith}
use lib.ListN.{length-set, get_or}
use Rattle.member_order.specs.Codes.{name_of, Coded}
use Rattle.member_order.specs.Names.{name_in}
use Rattle.member_order.proofs.Pairs.{pair_left}
use Rattle.member_order.proofs.Runs.{each-run}
use Rattle.member_order.proofs.sort.sort_pair.Goals as goal
use Rattle.member_order.proofs.sort.sort_pair.Goals.{then-next-eq1, else-next-eq1}

pub choose-next-requires : goal.choose-next-requires
choose-next-requires c =
    let P = Coded (name_in c.args.names.now) in
    let e = each-run c.args.words.now c.args.low 2 c.requires.0 P c.requires.1 in
    (omega arith, omega arith, rw add-zero at (e 0 (omega arith)), e 1 (omega arith))

pub returns-then-next : goal.returns-then-next
returns-then-next c =
    (pair_left c.args.words.now c.args.low c.requires.0 (name_of (name_in c.args.names.now)) c.choose-next.result c.choose-next.ensures).0 c.if-next.true

pub bounds-words-low-4 : goal.bounds-words-low-4
bounds-words-low-4 c =
    omega (arith, length-set c.args.words.now c.args.low c.choose-next.result.word)

pub returns : goal.returns
returns c =
    let u = c.args.words.now in
    let e : c.if-next-eq1.words ≡ cond (eqb c.choose-next.result.i 1) (get_or u (c.args.low + 1) 0) (get_or u c.args.low 0) =
    elim c.if-next-eq1.branch [
      | then-next-eq1 w ↦ rw (eq-eqb c.choose-next.result.i 1 w.if-next-eq1.true) w.words-is
      | else-next-eq1 w ↦ rw (ne_eqb c.choose-next.result.i 1 w.if-next-eq1.false) w.words-is
    ] in
    (pair_left u c.args.low c.requires.0 (name_of (name_in c.args.names.now)) c.choose-next.result c.choose-next.ensures).1 c.if-next.false _ e
