use native.Mathlib.Omega.{arith}
use Rattle.lines.proofs.SoundLaws.{area-says}
use Rattle.lines.proofs.area.sound.Goals as goal

pub returns : goal.returns
returns c =
    let l = c.line in
    let a = c.args in
    area-says a.h a.end a.area.now l.result c.line_sound.result l.ensures
    c.if-area-gt3.false c.if-h-area.false (omega (arith, c.if-limit-eq0.false)) c.if-h-limit.false c.line_sound.ensures
