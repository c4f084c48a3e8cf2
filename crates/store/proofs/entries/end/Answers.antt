use native.Mathlib.Omega.{arith}
use Rattle.store.proofs.EntryLaws.{base_word, count_word, end-said}
use Rattle.store.proofs.entries.end.Goals as goal

pub overflow_add-result : goal.overflow_add-result
overflow_add-result c = let w = c.args.s.now in omega (arith, base_word w, count_word w)

pub returns : goal.returns
returns c = end-said c.args.s.now
