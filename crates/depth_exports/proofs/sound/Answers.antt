use Rattle.levels.specs.Depth.{sound}
use Rattle.depth_exports.proofs.sound.Goals as goal

pub returns-then-sound : goal.returns-then-sound
unfolding sound
returns-then-sound c = rw (← c.sound.ensures, c.if-sound.true) c.sound-then-sound.ensures

pub returns-else-sound : goal.returns-else-sound
unfolding sound
returns-else-sound c = rw (← c.sound.ensures, c.if-sound.false)
