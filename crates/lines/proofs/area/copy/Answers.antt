use mathlib.Core.Path.{refl, ◌∙◌}
use Prim.Native.Nat.{◌+◌, ◌*◌}
use native.Mathlib.Omega.{arith}
use Rattle.lines.proofs.CopyLaws.{piece-ready, copy_done}
use Rattle.lines.proofs.area.copy.Goals as goal

pub copy-requires : goal.copy-requires
copy-requires c =
    piece-ready _ _ _ _ _ c.requires refl 0 _ _ _ (omega arith) (omega arith) (omega arith)

pub copy-requires-2 : goal.copy-requires-2
copy-requires-2 c =
    let i = c.item_words_used-items.ensures.inside in
    piece-ready _ _ _ _ _ c.requires c.copy.ensures.size 32 _ _ _ (omega arith) refl refl

pub copy-requires-3 : goal.copy-requires-3
copy-requires-3 c =
    let i = c.print_words_used-prints.ensures.inside in
    piece-ready _ _ _ _ _ c.requires (c.copy-2.ensures.size ∙ c.copy.ensures.size) (4 * c.args.h + 64) _ _ _ (omega arith) refl refl

pub returns : goal.returns
returns c =
    copy_done _ _ _ _ _ _ _ _ _ _ c.requires (omega arith) (omega arith) c.item_words_used-items.ensures c.print_words_used-prints.ensures
    c.copy.ensures c.copy-2.ensures c.copy-3.ensures
