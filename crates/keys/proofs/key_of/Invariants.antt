use Rattle.std.proofs.Common.{◌+◌, ◌*◌, ◌++◌, length}
use Rattle.keys.specs.Sip.{sip}
use Rattle.keys.specs.Keys.{prefix}
use Rattle.keys.proofs.Message.{HashesTo}
use Rattle.keys.proofs.key_of.Given as goal

abbrev pub invariant-loop-i : goal.invariant-loop-i
invariant-loop-i l = HashesTo l.first l.bytes (8 * l.i) (length l.bytes) (sip l.bytes)
    × HashesTo l.second l.bytes (8 * l.i) (length l.bytes + 8) (sip (prefix ++ l.bytes))
