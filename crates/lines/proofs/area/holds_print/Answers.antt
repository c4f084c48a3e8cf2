use mathlib.Core.Path.{◌≡◌, subst}
use Prim.Native.Nat.{ℕ}
use Rattle.rules.specs.Lists.{any}
use Rattle.rules.specs.Quantities.{same}
use Rattle.lines.specs.Area.{prints_in, print_words, conn_of}
use Rattle.lines.proofs.area.holds_print.Goals as goal

pub returns : goal.returns
unfolding conn_of
returns c =
    let a = c.args in
    subst (λ (n : ℕ). c.among.result ≡ any (λ p. same p.0 a.key) (prints_in n (print_words a.h a.area.now))) c.prints_held.ensures c.among.ensures
