use mathlib.Core.Path.{sym}
use native.Mathlib.Omega.{arith}
use Rattle.log_borrowed.proofs.ViewLaws.{view-before, view_in, view-past}
use Rattle.log_borrowed.proofs.view.LogView.key_at.Goals as goal

pub returns-then-n-self : goal.returns-then-n-self
returns-then-n-self c = sym (view-before _ _ _ _ _ _ c.if-n-self.true)

pub returns-then-i-self : goal.returns-then-i-self
returns-then-i-self c =
    let s = c.args.self in
    rw (view_in s.keys.now s.base s.count s.front s.g c.args.n (omega arith) (omega arith), c.key_in.ensures, c.place-p.ensures.0)

pub returns : goal.returns
returns c = sym (view-past _ _ _ _ _ _ (omega arith) (omega arith))
