use mathlib.Core.Path.{◌∙◌}
use native.Mathlib.Omega.{arith}
use lib.ListN.{length-set}
use Rattle.writing.proofs.ScalarLaws.{some-room, string-room, string-wrote}
use Rattle.writing.proofs.write.write_string.Goals as goal

pub bounds-out-pos : goal.bounds-out-pos
bounds-out-pos c = some-room _ _ _ _ c.requires.0

pub put_string-requires : goal.put_string-requires
put_string-requires c =
    let w = c.requires in
    let s = w.0.spans in
    (omega arith, w.0.short, simp length-set (string-room _ _ _ _ w.0 w.1))

pub shape_of-out : goal.shape_of-out
shape_of-out c = c.put_string.auto.out ∙ simp length-set

pub returns : goal.returns
returns c =
    let w = c.requires in
    string-wrote _ _ _ _ w.0 w.1 _ _ c.put_string.ensures
