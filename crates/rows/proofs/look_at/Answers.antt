use Prim.Native.Nat.{◌+◌, ◌-◌, ◌*◌, ◌/◌}
use native.Mathlib.Omega.{arith}
use Rattle.rows.proofs.Search.{looks-from}
use Rattle.rows.proofs.look_at.Goals as goal

pub returns-then-t-b : goal.returns-then-t-b
returns-then-t-b c =
    let s = c.args in
    looks-from s.b s.t.now s.n s.x (s.x / 4294967296 * s.n / 4294967296 - (32 + s.n / 32)) _ _ (omega arith) (omega arith) c.if-t-b.true
