use mathlib.Core.Logic.{⊎_elim}
use Prim.Native.Nat.{◌+◌}
use native.Mathlib.Omega.{arith}
use Rattle.words.proofs.Cases.{below_or}
use Rattle.place.proofs.Passing.{none_ahead, none-turned}
use Rattle.place.proofs.next_entry.Goals as goal

pub returns-then-count-ahead : goal.returns-then-count-ahead
returns-then-count-ahead c =
    let a = c.args in
    let p = c.next_key.ensures in
    let past = p.past in
    let inside = p.inside in
    record { past = omega arith; inside = omega arith; none = λ e l m. none_ahead a.keys.now a.g a.front p e (omega arith) (omega arith) (omega arith) }

pub returns-then-ahead-from : goal.returns-then-ahead-from
returns-then-ahead-from c =
    let a = c.args in
    let p = c.next_key-then-ahead-from.ensures in
    let past = p.past in
    let inside = p.inside in
    record { past = omega arith; inside = omega arith; none = λ e l m. none-turned a.keys.now a.g a.front p e (omega arith) (omega arith) (omega arith) }

pub returns-then-p-g : goal.returns-then-p-g
returns-then-p-g c =
    let a = c.args in
    let p = c.next_key-p.ensures in
    let past = p.past in
    record { past = omega arith; inside = omega arith; none = λ e l m. none_ahead a.keys.now a.g a.front p e (omega arith) (omega arith) (omega arith) }

-- the first piece is passed whole
pub returns : goal.returns
returns c =
    let a = c.args in
    let p = c.next_key-p.ensures in
    let q = c.next_key-2.ensures in
    let inside = q.inside in
    record {
      past = omega arith;
      inside = omega arith;
      none =
          λ e l m.
          ⊎_elim
          (λ b. none_ahead a.keys.now a.g a.front p e (omega arith) (omega arith) (omega arith))
          (λ b. none-turned a.keys.now a.g a.front q e (omega arith) (omega arith) (omega arith))
          (below_or (a.front + e) a.g);
    }
