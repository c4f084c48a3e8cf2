use mathlib.Core.Path.{◌≡◌}
use Prim.Native.Nat.{◌-◌, ◌<◌, ◌^◌}
use lib.ListN.{take, drop}
use Rattle.json_text.specs.Work.{decimal_of}
use Rattle.json_text.proofs.DecimalLaws.{decimal_from}
use Rattle.json_text.proofs.numbers.decimal_of.Given as goal

-- what is still to be read, behind n, writes what the whole does
abbrev pub invariant-loop-i : goal.invariant-loop-i
invariant-loop-i l = (decimal_of (take (l.to - l.from) (drop l.from l.text)) ≡ decimal_from l.n (take (l.to - l.i) (drop l.i l.text))) × (l.n < 2 ^ 64)
