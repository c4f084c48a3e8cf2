use native.Mathlib.Omega.{arith}
use Rattle.sound.proofs.LineLaws.{items-few}
use Rattle.sound.proofs.items_fit.Goals as goal

pub held_items-requires : goal.held_items-requires
held_items-requires c =
    (record { sized = c.requires.0; count = c.requires.1.0.lines }, omega (arith, items-few c.args.s.now c.requires.0 c.requires.1.0 c.requires.1.1))

pub overflow_add-all : goal.overflow_add-all
overflow_add-all c =
    omega (arith, items-few c.args.s.now c.requires.0 c.requires.1.0 c.requires.1.1)
