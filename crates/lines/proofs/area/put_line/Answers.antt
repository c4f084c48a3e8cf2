use mathlib.Core.Path.{refl, ◌∙◌}
use Rattle.lines.proofs.AreaLaws.{flag-byte, stamp-words}
use Rattle.lines.specs.Area.{line_words}
use Rattle.lines.proofs.area.put_line.Goals as goal
use Rattle.lines.proofs.area.put_line.Goals.{in-Waiting, in-Pending, in-InLine, in-Failed}

pub returns : goal.returns
unfolding line_words
returns c = elim c.match-line.branch [ in-Waiting w ↦ rw (c.copy_from_slice.ensures.after, w.words-is, w.in-Waiting.is) refl | in-Pending w ↦ rw (c.copy_from_slice.ensures.after, w.words-is, w.in-Pending.is, w.from.ensures, w.is_some.ensures, w.unwrap_or.ensures, (stamp-words w.in-Pending.snapshot).0, (stamp-words w.in-Pending.snapshot).1) refl | in-InLine w ↦ rw (c.copy_from_slice.ensures.after, w.words-is, w.in-InLine.is, w.from-in-InLine.ensures, w.from-in-InLine-2.ensures, flag-byte w.in-InLine.due0, flag-byte w.in-InLine.due1) refl | in-Failed w ↦ rw (c.copy_from_slice.ensures.after, w.words-is, w.in-Failed.is) refl ]
