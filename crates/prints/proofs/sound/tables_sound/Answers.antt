use Rattle.words.proofs.Cases.{says-yes, says-no}
use Rattle.prints.proofs.Soundness.{sound-keys, sound-done}
use Rattle.prints.proofs.sound.tables_sound.Goals as goal

pub returns-then-keys_sound : goal.returns-then-keys_sound
returns-then-keys_sound c =
    let s = c.args in
    sound-done s.c s.area.now s.used c.counts_sound.result
    (says-yes _ c.keys_sound.ensures c.if-keys_sound.true)
    c.counts_sound.ensures

pub returns-else-keys_sound : goal.returns-else-keys_sound
returns-else-keys_sound c = rw c.if-keys_sound.false (λ s. says-no _ c.keys_sound.ensures c.if-keys_sound.false (sound-keys _ _ _ s))
