use native.Mathlib.Omega.{arith}
use lib.ListN.{take}
use Rattle.std.proofs.Common.{rules}
use Rattle.std.proofs.lemmas.List.Sorted.{IsPartitionPoint-from_clause}
use Rattle.levels.specs.Depth.{better}
use Rattle.levels.proofs.Halving.{parted, point-place}
use Rattle.levels.proofs.search.place.Goals as goal

pub returns : goal.returns
returns c =
    let a = c.args in
    let m = c.partition_point in
    point-place a.falling a.prices.now a.count a.price (omega arith) m.result m.ensures.bound
    (IsPartitionPoint-from_clause (λ q. better a.falling q a.price) (take a.count a.prices.now) m.result m.ensures.partitioned
    (parted a.falling a.prices.now a.count a.price (omega arith) c.requires.1)
    (λ x r f' k. search rules))
