use Prim.Native.Nat.{ℕ, ◌<◌}
use Rattle.sound.specs.Parts.{SoundAt}
use Rattle.sound.proofs.lines_sound.Given as goal

abbrev pub invariant-loop-i : goal.invariant-loop-i
invariant-loop-i l = (k : ℕ) → k < l.i → SoundAt l.s l.end k
