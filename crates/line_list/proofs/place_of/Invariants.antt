use mathlib.Core.Path.{◌≡◌}
use Prim.Native.Nat.{◌+◌}
use lib.ListN.{drop}
use Rattle.rules.specs.Lists.{index}
use Rattle.store.specs.Store.{market_of}
use Rattle.line_list.proofs.ListedLaws.{not_lower}
use Rattle.line_list.proofs.place_of.Given as goal

abbrev pub invariant-loop-i : goal.invariant-loop-i
invariant-loop-i l = index (not_lower l.conn) (market_of l.s).lines ≡ l.i + index (not_lower l.conn) (drop l.i (market_of l.s).lines)
