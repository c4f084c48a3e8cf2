use Rattle.std.proofs.Common.{◌≤◌}
use Rattle.keys.proofs.Bytes.{Taken}
use Rattle.keys.proofs.load.load_rest.Given as goal

abbrev pub invariant-loop-k : goal.invariant-loop-k
invariant-loop-k l = (l.at ≤ l.k) × Taken l.s l.k l.w
