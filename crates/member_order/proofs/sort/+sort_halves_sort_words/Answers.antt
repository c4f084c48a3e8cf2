use mathlib.Core.List.{[]}
use mathlib.Core.Path.{◌≡◌, ◌∙◌}
use Prim.Native.Nat.{◌/◌}
use native.Mathlib.Omega.{arith}
use lib.ListN.{length}
use Rattle.member_order.specs.Codes.{name_of, Coded}
use Rattle.member_order.specs.Names.{name_in}
use Rattle.member_order.proofs.Runs.{each_part}
use Rattle.member_order.proofs.Sorting.{sorted-few, second-each, parts-to-merge, sorted-whole}
use Rattle.member_order.proofs.sort.+sort_halves_sort_words.Goals as goal

pub sort_words-returns-then-n-lt2 : goal.sort_words-returns-then-n-lt2
sort_words-returns-then-n-lt2 t c =
    sorted-few (name_of (name_in c.args.names.now)) c.args.words.now _ _ c.requires.0 (omega (arith, c.if-n-lt2.true))

pub sort_words-sort_halves-requires : goal.sort_words-sort_halves-requires
sort_words-sort_halves-requires t c = (omega arith, (omega arith, omega arith, c.requires.2, omega arith))

pub sort_halves-sort_words-a-requires : goal.sort_halves-sort_words-a-requires
sort_halves-sort_words-a-requires t c =
    let a = c.args in
    let P = Coded (name_in a.names.now) in
    let e = each_part P a.words.now a.low a.n a.low (a.n / 2) c.requires.0 (omega arith) (omega arith) c.requires.2 in
    (omega arith, (omega arith, omega arith, e))

pub sort_halves-sort_words-b-requires : goal.sort_halves-sort_words-b-requires
sort_halves-sort_words-b-requires t c =
    let P = Coded (name_in c.args.names.now) in (
      omega arith,
      (
        omega (arith, c.sort_words-a.ensures.0.size),
        omega (arith, c.sort_words-a.auto.merged),
        second-each (name_of (name_in c.args.names.now)) c.args.words.now c.sort_words-a.new.words [] _ _ (c.args.n / 2) _ 0 c.requires.0 (omega arith)
            c.sort_words-a.ensures P c.requires.2,
      ),
    )

pub sort_halves-merge-count-requires : goal.sort_halves-merge-count-requires
sort_halves-merge-count-requires t c =
    parts-to-merge (name_of (name_in c.args.names.now)) c.args.words.now c.sort_words-a.new.words c.sort_words-b.new.words _ _ (c.args.n / 2)
    c.sort_words-a.result c.sort_words-b.result c.requires.0 (omega arith) c.sort_words-a.ensures c.sort_words-b.ensures _
    (omega (arith, c.sort_words-a.auto.merged, c.sort_words-b.auto.merged)) (Coded (name_in c.args.names.now)) c.requires.2

pub sort_halves-returns : goal.sort_halves-returns
sort_halves-returns t c =
    let q : length c.merge-count.new.merged ≡ length c.args.merged.now =
    c.merge-count.auto.merged ∙ c.sort_words-b.auto.merged ∙ c.sort_words-a.auto.merged in
    sorted-whole (name_of (name_in c.args.names.now)) c.args.words.now c.sort_words-a.new.words c.sort_words-b.new.words _ _ (c.args.n / 2)
    c.sort_words-a.result c.sort_words-b.result c.requires.0 (omega arith) c.sort_words-a.ensures c.sort_words-b.ensures
    c.merge-count.new.merged c.copy_back.new.words c.merge-count.result c.merge-count.ensures.0 c.merge-count.ensures.1
    (omega (arith, c.requires.1)) c.copy_back.ensures
