use native.Mathlib.Omega.{arith}
use Rattle.canonical.proofs.MessageLaws.{zeros-suffice}
use Rattle.canonical.proofs.write_within.Goals as goal

pub write_message-requires : goal.write_message-requires
write_message-requires g c =
    let r = c.requires in
    zeros-suffice g.row.N g.row.QUARTER c.args.text.now c.args.out.now r.0 r.1 (omega (arith, r.1, r.2)) r.4
