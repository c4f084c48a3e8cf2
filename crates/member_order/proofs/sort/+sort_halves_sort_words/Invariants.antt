-- Twice how many words are to be sorted, and one more before the halves are made.
use Prim.Native.Nat.{◌+◌, ◌*◌}
use Rattle.member_order.proofs.sort.+sort_halves_sort_words.Given as goal

abbrev pub decreases-sort_halves : goal.decreases-sort_halves
decreases-sort_halves l = 2 * l.n

abbrev pub decreases-sort_words : goal.decreases-sort_words
decreases-sort_words l = 2 * l.n + 1
